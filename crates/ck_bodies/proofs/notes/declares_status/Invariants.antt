use Rattle.std.proofs.Common.{◌≡◌, length}
use Rattle.ck_points.specs.Functions.{status_declared}
use Rattle.ck_tables.specs.Readings.{BodyReadings}
use Rattle.ck_tables.specs.StmtTable.{declarators_of}
use Rattle.ck_bodies.proofs.notes.declares_status.Given as goal

abbrev pub invariant-rest : goal.invariant-rest
invariant-rest l =
    record {
      is :
          (b : BodyReadings) →
          status_declared (declarators_of b l.initial.rest) ≡ status_declared (declarators_of b l.rest);
    }

abbrev pub decreases-rest : goal.decreases-rest
decreases-rest l = length l.rest
