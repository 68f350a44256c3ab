use Rattle.std.proofs.Common.{Some, ◌∷◌, ◌++◌, ap, ◌∙◌}
use Rattle.ck_grammar.proofs.Appended.{declarator_appended}
use Rattle.ck_grammar.specs.Written.{declarator, dims}
use Rattle.ck_syntax.specs.ExpressionViews.{declarator_tree, dim_trees}
use Rattle.ck_syntax.proofs.EndLemmas.{closes, last_after-append}
use Rattle.ck_syntax.proofs.Equations as views
use Rattle.ck_syntax.proofs.RowEnds.{last_view, last_or, last_of-tokens}
use Rattle.ck_syntax.proofs.declarators.Declarator.last_token.Goals as goal

pub returns-in-Abstract : goal.returns-in-Abstract
returns-in-Abstract g c =
    let d = c.in-Abstract in
    last_view declarator _ (ap declarator_tree d.is ∙ views.declarator_tree-Abstract _ _)
    (last_or (◌++◌ d.stars.items) (dims (dim_trees d.dims.items)) _ _ c.or.ensures
    (last_of-tokens d.stars.items c.last_of.ensures) c.last_of_dims.ensures)

pub returns-in-Named : goal.returns-in-Named
returns-in-Named g c =
    let d = c.in-Named in
    last_view declarator _ (ap declarator_tree d.is ∙ views.declarator_tree-Named _ _ _)
    (last_or (λ more. d.stars.items ++ d.name ∷ more) (dims (dim_trees d.dims.items)) _ _ c.or-in-Named.ensures
    (λ before more. last_after-append before d.stars.items (d.name ∷ more)) c.last_of_dims-in-Named.ensures)

pub returns-in-Nested : goal.returns-in-Nested
returns-in-Nested g c =
    let d = c.in-Nested in
    let inner = declarator_tree d.inner.value in
    last_view declarator _ (ap declarator_tree d.is ∙ views.declarator_tree-Nested _ _ _ _ _)
    (last_or (λ more. d.stars.items ++ d.opening ∷ declarator inner (d.closing ∷ more)) (dims (dim_trees d.dims.items))
    _ _ c.or-in-Nested.ensures
    (λ before more. last_after-append before d.stars.items (d.opening ∷ declarator inner (d.closing ∷ more))
    ∙ closes (declarator inner) (declarator_appended inner) (Some d.opening) d.closing more)
    c.last_of_dims-in-Nested.ensures)
