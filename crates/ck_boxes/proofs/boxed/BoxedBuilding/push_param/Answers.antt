use Rattle.std.proofs.Common.{max, refl, ap}
use Rattle.ck_boxes.proofs.DepthLemmas.{alone, both, element, grown}
use Rattle.ck_grammar.specs.Nesting.{declarator_nesting, more_params_nesting, specifiers_nesting}
use Rattle.ck_grammar.specs.Trees as plain
use Rattle.ck_syntax.specs.ExpressionViews.{declarator_tree, parameter_before, specifier_before, specifier_trees}
use Rattle.ck_syntax.specs.Rows.{row_before}
use Rattle.ck_boxes.proofs.boxed.BoxedBuilding.push_param.Goals as goal

pub push-requires : goal.push-requires
push-requires g c =
    let s = specifiers_nesting (specifier_trees c.args.of.row.items) in
    let d = declarator_nesting (declarator_tree c.args.next.tree) in
    element more_params_nesting (parameter_before c.new.result) (max s d) c.deeper-depth.result
    (both s d c.args.of.depth c.args.next.depth c.deeper-depth.result
    (alone specifiers_nesting (row_before specifier_before c.args.of.row.items) plain.NoSpecifiers c.args.of.depth refl
    c.args.of.measured) c.args.next.measured c.deeper-depth.ensures)
    (λ rest. ap (λ f. more_params_nesting (f rest)) c.new.ensures)

pub returns : goal.returns
returns g c =
    grown c.push.result (row_before parameter_before c.args.row.now.row.items)
    (row_before parameter_before c.push.new.self.row.items)
    (parameter_before c.new.result)
    (plain.More c.args.comma (specifier_trees c.args.of.row.items) (declarator_tree c.args.next.tree))
    (λ rest. ap (λ f. f rest) c.new.ensures) c.push.ensures
