use Rattle.std.proofs.Common.{suc, refl, ap, ◌∙◌}
use Rattle.ck_boxes.proofs.DepthLemmas.{alone, around_one, element, grown}
use Rattle.ck_grammar.specs.Nesting.{members_nesting, specifiers_nesting}
use Rattle.ck_grammar.specs.Trees as plain
use Rattle.ck_syntax.specs.ExpressionViews.{member_before, member_trees, specifier_before, struct_before}
use Rattle.ck_syntax.specs.Rows.{row_before}
use Rattle.ck_boxes.proofs.boxed.BoxedBuilding.push_struct.Goals as goal

pub push-requires : goal.push-requires
push-requires g c =
    let n = members_nesting (member_trees c.args.body.row.items) in
    element specifiers_nesting (specifier_before c.structure.result) (suc n) c.one_more-depth.result
    (around_one (suc n) n c.args.body.depth c.one_more-depth.result refl
    (alone members_nesting (row_before member_before c.args.body.row.items) plain.NoMembers c.args.body.depth refl
    c.args.body.measured) c.one_more-depth.ensures)
    (λ rest. ap specifiers_nesting (c.structure.ensures rest ∙ ap (λ s. struct_before s rest)
    c.in_ok-inside.ensures ∙ c.new-whole.ensures rest))

pub returns : goal.returns
returns g c =
    grown c.push.result (row_before specifier_before c.args.row.now.row.items)
    (row_before specifier_before c.push.new.self.row.items)
    (specifier_before c.structure.result)
    (plain.Struct c.args.keyword c.args.tag c.args.opening (member_trees c.args.body.row.items) c.args.closing)
    (λ rest. c.structure.ensures rest ∙ ap (λ s. struct_before s rest) c.in_ok-inside.ensures ∙ c.new-whole.ensures
    rest) c.push.ensures
