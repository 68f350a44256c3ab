use Rattle.ck_boxes.proofs.DepthLemmas.{grown}
use Rattle.ck_grammar.specs.Trees as plain
use Rattle.ck_syntax.specs.ExpressionViews.{suffix_before}
use Rattle.ck_syntax.specs.Rows.{row_before}
use Rattle.ck_boxes.proofs.boxed.BoxedBuilding.push_member_access.Goals as goal

pub returns : goal.returns
returns g c =
    grown c.push.result (row_before suffix_before c.args.row.now.row.items)
    (row_before suffix_before c.push.new.self.row.items)
    (suffix_before c.member_access.result) (plain.MemberAccess c.args.operator c.args.member)
    (c.member_access.ensures) c.push.ensures
