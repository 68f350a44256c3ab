use Rattle.std.proofs.Common.{length, refl, ap}
use Rattle.ck_boxes.proofs.RowQuestions.{is_filled}
use Rattle.ck_grammar.specs.ReadingExpressions.{has_operand}
use Rattle.ck_grammar.specs.Trees as plain
use Rattle.ck_syntax.specs.ExpressionViews.{operand_before}
use Rattle.ck_boxes.proofs.boxed.BoxedBuilding.has_operand.Goals as goal

pub returns : goal.returns
returns g c =
    is_filled operand_before has_operand plain.NoOperands refl (λ o rest. refl) c.args.row.now.row.items
    (length c.as_slice.result.now)
    c.is_empty.result (ap length c.as_slice.ensures.value) c.is_empty.ensures
