use Rattle.std.proofs.Common.{sym, subst, ap}
use Rattle.ck_points.specs.Functions.{status_in_start}
use Rattle.ck_tables.specs.Program.{body_readings}
use Rattle.ck_tables.specs.StmtTable.{plain_start}
use Rattle.ck_counts.specs.BodyPoints.{start_points}
use Rattle.ck_counts.specs.Weights.{IsCounted}
use Rattle.ck_counts.proofs.statements.start_count.Goals as goal

pub returns-in-Empty-clause-is : goal.returns-in-Empty-clause-is
returns-in-Empty-clause-is c =
    let b = body_readings c.args.program.now.linked in
    subst (λ s. IsCounted c.plain.result (start_points (plain_start b s)) (status_in_start (plain_start b s)))
    (sym c.in-Empty.is) (c.plain.ensures 0 c.of.ensures)
