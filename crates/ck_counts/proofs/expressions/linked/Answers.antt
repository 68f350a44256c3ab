use Rattle.ck_counts.specs.Extents.{extent_of, operator_points}
use Rattle.ck_counts.specs.Weights.{tree}
use Rattle.ck_counts.proofs.expressions.linked.Goals as goal

pub returns : goal.returns
returns c v left =
    let right = extent_of (tree c.args.program.now.linked c.args.next.now.operand.0) in
    c.over.ensures (operator_points c.args.next.now.operator v right)
    (c.operator_weight-points.ensures v right left c.operand-right.ensures)
