use Rattle.std.proofs.Common.{suc, refl, ap, ◌∙◌}
use Rattle.ck_boxes.proofs.DepthLemmas.{around_one, element, grown}
use Rattle.ck_grammar.specs.Nesting.{enumerators_nesting, specifiers_nesting}
use Rattle.ck_grammar.specs.Trees as plain
use Rattle.ck_syntax.specs.ExpressionViews.{enum_before, enumerator_trees, specifier_before}
use Rattle.ck_syntax.specs.Rows.{row_before}
use Rattle.ck_boxes.proofs.boxed.BoxedBuilding.push_enum.Goals as goal

pub push-requires : goal.push-requires
push-requires g c =
    let n = enumerators_nesting (enumerator_trees c.args.body.earlier.items c.args.body.last c.args.body.comma) in
    element specifiers_nesting (specifier_before c.enumeration.result) (suc n) c.one_more.result
    (around_one (suc n) n c.args.body.depth c.one_more.result refl c.args.body.measured c.one_more.ensures)
    (λ rest. ap specifiers_nesting
    (c.enumeration.ensures rest ∙ ap (λ s. enum_before s rest) c.in_ok-inside.ensures ∙ c.new-whole.ensures rest))

pub returns : goal.returns
returns g c =
    grown c.push.result (row_before specifier_before c.args.row.now.row.items)
    (row_before specifier_before c.push.new.self.row.items)
    (specifier_before c.enumeration.result) (plain.Enum c.args.keyword c.args.tag c.args.opening
    (enumerator_trees c.args.body.earlier.items c.args.body.last c.args.body.comma) c.args.closing)
    (λ rest. c.enumeration.ensures rest ∙ ap (λ s. enum_before s rest) c.in_ok-inside.ensures ∙ c.new-whole.ensures
    rest) c.push.ensures
