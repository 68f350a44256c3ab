use Rattle.std.proofs.Common.{◌≤◌, length, drop}
use Rattle.ck_points.specs.Functions.{status_in}
use Rattle.ck_tables.specs.Program.{body_readings}
use Rattle.ck_tables.specs.StmtTable.{statement_at, items_of}
use Rattle.ck_counts.specs.BodyPoints.{items_points}
use Rattle.ck_counts.specs.Weights.{IsCounted, IsKnown}
use Rattle.ck_counts.proofs.statements.items_count.Given as goal

abbrev pub invariant-each : goal.invariant-each
invariant-each l =
    let b = body_readings l.program.linked in
    let is = items_of b (statement_at b l.program.linked.stmts) (drop l.left l.row) in
    record {
      low : l.left ≤ length l.row;
      known : IsKnown l.program.linked l.known;
      are : IsCounted l.all (items_points is) (status_in is);
    }

abbrev pub decreases-each : goal.decreases-each
decreases-each l = l.left
