use Rattle.std.proofs.Common.{◌≤◌, length, drop}
use Rattle.ck_tables.specs.InitTable.{init_at, row_of}
use Rattle.ck_tables.specs.Program.{with_expressions}
use Rattle.ck_counts.specs.BodyPoints.{initialisers_points}
use Rattle.ck_counts.specs.Weights.{Weighs}
use Rattle.ck_counts.proofs.initialisers.elements.Given as goal

abbrev pub invariant-each : goal.invariant-each
invariant-each l =
    let b = with_expressions l.program.linked in
    record {
      low : l.left ≤ length l.row;
      are : Weighs l.sum.0 (initialisers_points (row_of b (init_at b l.program.linked.inits) (drop l.left l.row)));
    }

abbrev pub decreases-each : goal.decreases-each
decreases-each l = l.left
