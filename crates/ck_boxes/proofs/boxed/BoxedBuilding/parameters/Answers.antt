use Rattle.std.proofs.Common.{max, refl, ap, sym, ◌∙◌}
use Rattle.ck_boxes.proofs.DepthLemmas.{alone, both, end-nesting}
use Rattle.ck_boxes.specs.Depths.{kept}
use Rattle.ck_grammar.specs.Nesting.{declarator_nesting, more_params_nesting, params_nesting, specifiers_nesting}
use Rattle.ck_grammar.specs.Trees as plain
use Rattle.ck_syntax.specs.ExpressionViews.{declarator_tree, ellipsis_tree}
use Rattle.ck_syntax.specs.ExpressionViews.{parameter_before, parameter_trees, specifier_before}
use Rattle.ck_syntax.specs.ExpressionViews.{specifier_trees}
use Rattle.ck_syntax.specs.Rows.{row_before}
use Rattle.ck_boxes.proofs.boxed.BoxedBuilding.parameters.Goals as goal

pub invariant_of-result : goal.invariant_of-result
invariant_of-result g c =
    let s = specifiers_nesting (specifier_trees c.args.of.row.items) in
    let d = declarator_nesting (declarator_tree c.args.first.tree) in
    let end = c.ellipsis_of-end.result in
    let more = more_params_nesting (parameter_trees c.args.others.row.items end) in
    record {
      measured =
          both (max s d) more c.deeper.result c.args.others.depth c.deeper-depth.result
          (both s d c.args.of.depth c.args.first.depth c.deeper.result
          (alone specifiers_nesting (row_before specifier_before c.args.of.row.items) plain.NoSpecifiers
          c.args.of.depth refl c.args.of.measured) c.args.first.measured c.deeper.ensures)
          (alone more_params_nesting (row_before parameter_before c.args.others.row.items) (ellipsis_tree end)
          c.args.others.depth (end-nesting end) c.args.others.measured) c.deeper-depth.ensures
          ∙ ap (λ t. kept (params_nesting t)) (sym c.listed-tree.ensures);
    }
