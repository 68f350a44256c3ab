use Rattle.std.proofs.Common.{ap, ◌∙◌}
use Rattle.ck_boxes.proofs.DepthLemmas.{grown}
use Rattle.ck_grammar.specs.Trees as plain
use Rattle.ck_syntax.specs.ExpressionViews.{expr_tree, suffix_before}
use Rattle.ck_syntax.specs.Rows.{row_before}
use Rattle.ck_boxes.proofs.boxed.BoxedBuilding.push_index.Goals as goal

pub returns : goal.returns
returns g c =
    grown c.push.result (row_before suffix_before c.args.row.now.row.items)
    (row_before suffix_before c.push.new.self.row.items)
    (suffix_before c.index.result) (plain.Index c.args.opening (expr_tree c.args.index.tree) c.args.closing)
    (λ rest. c.index.ensures rest
    ∙ ap (λ v. plain.Index c.args.opening (expr_tree v) c.args.closing rest) c.in_ok-inside.ensures) c.push.ensures
