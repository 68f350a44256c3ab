use Rattle.std.proofs.Common.{◌≡◌, [], true, length}
use Rattle.std.specs.List.{list_all}
use Rattle.ck_passages.specs.Drawing.{draw}
use Rattle.ck_points.specs.Initialising.{declaring}
use Rattle.ck_tables.specs.Numbers.{numbers, declarator_fits}
use Rattle.ck_tables.specs.Program.{with_initialisers}
use Rattle.ck_tables.specs.StmtTable.{declarators_of}
use Rattle.ck_bodies.specs.Walks.{tables, made}
use Rattle.ck_bodies.proofs.walk.BodyWalk.declarators.Given as goal

abbrev pub invariant-rest : goal.invariant-rest
invariant-rest l =
    record {
      fits : list_all (declarator_fits (numbers (tables l.self))) l.rest ≡ true;
      is :
          draw [] (declaring l.path 0 (declarators_of (with_initialisers (tables l.self)) l.initial.rest))
          (made l.self l.initial.drawing)
          ≡ draw [] (declaring l.path 0 (declarators_of (with_initialisers (tables l.self)) l.rest))
          (made l.self l.drawing);
    }

abbrev pub decreases-rest : goal.decreases-rest
decreases-rest l = length l.rest
