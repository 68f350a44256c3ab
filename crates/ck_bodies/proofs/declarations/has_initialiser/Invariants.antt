use Rattle.std.proofs.Common.{◌≡◌, length}
use Rattle.ck_points.specs.Initialising.{has_initialiser}
use Rattle.ck_tables.specs.Readings.{BodyReadings}
use Rattle.ck_tables.specs.StmtTable.{declarators_of}
use Rattle.ck_bodies.proofs.declarations.has_initialiser.Given as goal

abbrev pub invariant-rest : goal.invariant-rest
invariant-rest l =
    record {
      is :
          (b : BodyReadings) →
          has_initialiser (declarators_of b l.initial.rest) ≡ has_initialiser (declarators_of b l.rest);
    }

abbrev pub decreases-rest : goal.decreases-rest
decreases-rest l = length l.rest
