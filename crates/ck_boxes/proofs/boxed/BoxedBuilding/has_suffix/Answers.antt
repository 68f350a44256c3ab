use Rattle.std.proofs.Common.{length, refl, ap}
use Rattle.ck_boxes.proofs.RowQuestions.{is_filled, has_suffix-before}
use Rattle.ck_grammar.specs.Fitting.{has_suffix}
use Rattle.ck_grammar.specs.Trees as plain
use Rattle.ck_syntax.specs.ExpressionViews.{suffix_before}
use Rattle.ck_boxes.proofs.boxed.BoxedBuilding.has_suffix.Goals as goal

pub returns : goal.returns
returns g c =
    is_filled suffix_before has_suffix plain.NoSuffixes refl has_suffix-before c.args.row.now.row.items
    (length c.as_slice.result.now)
    c.is_empty.result (ap length c.as_slice.ensures.value) c.is_empty.ensures
