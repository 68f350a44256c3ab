use Rattle.std.proofs.Common.{◌≡◌, ◌+◌, ◌*◌, [], true, length}
use Rattle.ck_passages.specs.Drawing.{draw}
use Rattle.ck_points.specs.Initialising.{initialising_from}
use Rattle.ck_tables.specs.InitTable.{row_of, row_below}
use Rattle.ck_tables.specs.Program.{with_expressions}
use Rattle.ck_bodies.specs.Walks.{tables, made, initialiser}
use Rattle.ck_bodies.proofs.walk.BodyWalk.+initialisers.Given as goal

abbrev pub decreases-initialiser : goal.decreases-initialiser
decreases-initialiser l = 2 * l.id.0 + 1

abbrev pub decreases-elements : goal.decreases-elements
decreases-elements l = 2 * l.of.0

abbrev pub invariant-elements-rest : goal.invariant-elements-rest
invariant-elements-rest l =
    record {
      below : row_below l.fn.of.0 l.rest ≡ true;
      is :
          draw [] (initialising_from l.path 0
          (row_of (with_expressions (tables l.self)) (initialiser (tables l.self)) l.initial.rest))
          (made l.self l.initial.drawing)
          ≡ draw [] (initialising_from l.path 0
          (row_of (with_expressions (tables l.self)) (initialiser (tables l.self)) l.rest)) (made l.self l.drawing);
    }

abbrev pub decreases-elements-rest : goal.decreases-elements-rest
decreases-elements-rest l = length l.rest
