use Rattle.std.proofs.Common.{length, refl, ap}
use Rattle.ck_boxes.proofs.RowQuestions.{is_filled, has_member-before}
use Rattle.ck_grammar.specs.Fitting.{has_member}
use Rattle.ck_grammar.specs.Trees as plain
use Rattle.ck_syntax.specs.ExpressionViews.{member_before}
use Rattle.ck_boxes.proofs.boxed.BoxedBuilding.has_member.Goals as goal

pub returns : goal.returns
returns g c =
    is_filled member_before has_member plain.NoMembers refl has_member-before c.args.row.now.row.items
    (length c.as_slice.result.now)
    c.is_empty.result (ap length c.as_slice.ensures.value) c.is_empty.ensures
