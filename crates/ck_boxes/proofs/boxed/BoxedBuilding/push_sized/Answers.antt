use Rattle.std.proofs.Common.{ap, ◌∙◌}
use Rattle.ck_boxes.proofs.DepthLemmas.{grown}
use Rattle.ck_grammar.specs.Trees as plain
use Rattle.ck_syntax.specs.ExpressionViews.{dim_before, expr_tree}
use Rattle.ck_syntax.specs.Rows.{row_before}
use Rattle.ck_boxes.proofs.boxed.BoxedBuilding.push_sized.Goals as goal

pub returns : goal.returns
returns g c =
    grown c.push.result (row_before dim_before c.args.row.now.row.items)
    (row_before dim_before c.push.new.self.row.items)
    (dim_before c.sized.result) (plain.Sized c.args.opening (expr_tree c.args.size.tree) c.args.closing)
    (λ rest. c.sized.ensures rest
    ∙ ap (λ v. plain.Sized c.args.opening (expr_tree v) c.args.closing rest) c.in_ok-inside.ensures) c.push.ensures
