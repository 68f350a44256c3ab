use Rattle.std.proofs.Common.{max, refl, ap, ◌∙◌}
use Rattle.ck_boxes.proofs.DepthLemmas.{alone, both, element, grown}
use Rattle.ck_grammar.specs.Nesting.{nesting, operands_nesting, suffixes_nesting}
use Rattle.ck_grammar.specs.Trees as plain
use Rattle.ck_syntax.specs.ExpressionViews.{expr_tree, operand_before, operand_trees, suffix_before}
use Rattle.ck_syntax.specs.Rows.{row_before}
use Rattle.ck_boxes.proofs.boxed.BoxedBuilding.push_call.Goals as goal

pub push-requires : goal.push-requires
push-requires g c =
    let a = nesting (expr_tree c.args.first.tree) in
    let b = operands_nesting (operand_trees c.args.others.row.items) in
    element suffixes_nesting (suffix_before c.call.result) (max a b) c.deeper-depth.result
    (both a b c.args.first.depth c.args.others.depth c.deeper-depth.result c.args.first.measured
    (alone operands_nesting (row_before operand_before c.args.others.row.items) plain.NoOperands c.args.others.depth
    refl
    c.args.others.measured) c.deeper-depth.ensures)
    (λ rest. ap suffixes_nesting (c.call.ensures rest
    ∙ ap (λ v. plain.Call c.args.opening (expr_tree v) (operand_trees c.args.others.row.items) c.args.closing rest)
    c.in_ok-argument.ensures))

pub returns : goal.returns
returns g c =
    grown c.push.result (row_before suffix_before c.args.row.now.row.items)
    (row_before suffix_before c.push.new.self.row.items)
    (suffix_before c.call.result) (plain.Call c.args.opening (expr_tree c.args.first.tree)
    (operand_trees c.args.others.row.items) c.args.closing)
    (λ rest. c.call.ensures rest
    ∙ ap (λ v. plain.Call c.args.opening (expr_tree v) (operand_trees c.args.others.row.items) c.args.closing rest)
    c.in_ok-argument.ensures) c.push.ensures
