use Rattle.std.proofs.Common.{◌+◌}
use Rattle.ck_counts.specs.BodyPoints.{expression_points}
use Rattle.ck_counts.specs.Weights.{tree}
use Rattle.ck_counts.proofs.statements.controlled.Goals as goal

pub returns-clause-is : goal.returns-clause-is
returns-clause-is c n b parts =
    let points = expression_points (tree c.args.program.now.linked c.args.x.0) in
    c.after.ensures (3 + points) n b (c.and.ensures 3 points c.of.ensures c.in_ok-points.ensures.is) parts
