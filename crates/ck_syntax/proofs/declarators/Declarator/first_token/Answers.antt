use Rattle.std.proofs.Common.{◌∷◌, ◌++◌, ap, refl, ◌∙◌}
use Rattle.ck_grammar.specs.Written.{declarator, dims}
use Rattle.ck_syntax.specs.ExpressionViews.{declarator_tree, dim_trees}
use Rattle.ck_syntax.proofs.Equations as views
use Rattle.ck_syntax.proofs.RowEnds.{first_view, first_or, first_of-tokens}
use Rattle.ck_syntax.proofs.declarators.Declarator.first_token.Goals as goal

pub returns-in-Abstract : goal.returns-in-Abstract
returns-in-Abstract g c =
    let d = c.in-Abstract in
    first_view declarator _ (ap declarator_tree d.is ∙ views.declarator_tree-Abstract _ _)
    (first_or (◌++◌ d.stars.items) (dims (dim_trees d.dims.items)) _ _ c.or.ensures
    (first_of-tokens d.stars.items c.first_of.ensures) c.first_of_dims.ensures)

pub returns-in-Named : goal.returns-in-Named
returns-in-Named g c =
    let d = c.in-Named in
    first_view declarator _ (ap declarator_tree d.is ∙ views.declarator_tree-Named _ _ _)
    (first_or (◌++◌ d.stars.items) (λ more. d.name ∷ dims (dim_trees d.dims.items) more) _ _ c.or-in-Named.ensures
    (first_of-tokens d.stars.items c.first_of-in-Named.ensures) (λ more. refl))

pub returns-in-Nested : goal.returns-in-Nested
returns-in-Nested g c =
    let d = c.in-Nested in
    first_view declarator _ (ap declarator_tree d.is ∙ views.declarator_tree-Nested _ _ _ _ _)
    (first_or (◌++◌ d.stars.items)
    (λ more. d.opening ∷ declarator (declarator_tree d.inner.value) (d.closing ∷ dims (dim_trees d.dims.items) more))
    _ _ c.or-in-Nested.ensures (first_of-tokens d.stars.items c.first_of-in-Nested.ensures) (λ more. refl))
