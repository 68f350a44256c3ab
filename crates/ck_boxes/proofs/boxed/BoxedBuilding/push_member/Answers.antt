use Rattle.std.proofs.Common.{max, refl, ap, ◌∙◌}
use Rattle.ck_boxes.proofs.DepthLemmas.{alone, both, element, grown, max-assoc}
use Rattle.ck_grammar.specs.Nesting.{declarator_nesting, declarators_nesting, members_nesting, specifiers_nesting}
use Rattle.ck_grammar.specs.Trees as plain
use Rattle.ck_syntax.specs.ExpressionViews.{declarator_before, declarator_tree}
use Rattle.ck_syntax.specs.ExpressionViews.{declarator_trees, member_before, specifier_before}
use Rattle.ck_syntax.specs.ExpressionViews.{specifier_trees}
use Rattle.ck_syntax.specs.Rows.{row_before}
use Rattle.ck_boxes.proofs.boxed.BoxedBuilding.push_member.Goals as goal

pub push-requires : goal.push-requires
push-requires g c =
    let s = specifiers_nesting (specifier_trees c.args.of.row.items) in
    let d = declarator_nesting (declarator_tree c.args.first.tree) in
    let ds = declarators_nesting (declarator_trees c.args.others.row.items) in
    element members_nesting (member_before c.new-member.result) (max (max s d) ds) c.deeper-depth.result
    (both (max s d) ds c.deeper.result c.args.others.depth c.deeper-depth.result
    (both s d c.args.of.depth c.args.first.depth c.deeper.result
    (alone specifiers_nesting (row_before specifier_before c.args.of.row.items) plain.NoSpecifiers c.args.of.depth refl
    c.args.of.measured) c.args.first.measured c.deeper.ensures)
    (alone declarators_nesting (row_before declarator_before c.args.others.row.items) plain.NoDeclarators
    c.args.others.depth refl c.args.others.measured) c.deeper-depth.ensures)
    (λ rest. ap members_nesting (c.new-member.ensures rest) ∙ max-assoc (max s d) ds (members_nesting rest))

pub returns : goal.returns
returns g c =
    grown c.push.result (row_before member_before c.args.row.now.row.items)
    (row_before member_before c.push.new.self.row.items)
    (member_before c.new-member.result)
    (plain.Member (specifier_trees c.args.of.row.items) (declarator_tree c.args.first.tree)
    (declarator_trees c.args.others.row.items) c.args.semicolon)
    (c.new-member.ensures) c.push.ensures
