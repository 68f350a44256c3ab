use Rattle.std.proofs.Common.{suc, max, refl, ap, ◌∙◌}
use Rattle.ck_boxes.proofs.DepthLemmas.{alone, around_one, both}
use Rattle.ck_grammar.specs.Nesting.{nesting, operands_nesting}
use Rattle.ck_grammar.specs.Trees as plain
use Rattle.ck_syntax.specs.ExpressionViews.{expr_tree, operand_before, operand_trees}
use Rattle.ck_syntax.specs.Rows.{row_before}
use Rattle.ck_boxes.proofs.boxed.BoxedBuilding.chain.Goals as goal

pub invariant_of-result : goal.invariant_of-result
invariant_of-result g c =
    let a = nesting (expr_tree c.args.first.tree) in
    let b = operands_nesting (operand_trees c.args.row.row.items) in
    record {
      measured =
          around_one (nesting (expr_tree c.chain-tree.result)) (max a b) c.deeper.result c.one_more-depth.result
          (ap nesting c.chain-tree.ensures ∙ ap (λ v. suc (max (nesting (expr_tree v)) b)) c.in_ok-left.ensures)
          (both a b c.args.first.depth c.args.row.depth c.deeper.result c.args.first.measured
          (alone operands_nesting (row_before operand_before c.args.row.row.items) plain.NoOperands c.args.row.depth
          refl
          c.args.row.measured) c.deeper.ensures) c.one_more-depth.ensures;
    }
