use Rattle.std.proofs.Common.{◌∷◌, refl, ap}
use Rattle.ck_grammar.specs.StatementsWritten.{external, items}
use Rattle.ck_grammar.specs.Written.{specifiers, declarator}
use Rattle.ck_syntax.specs.ExpressionViews.{specifier_trees, declarator_tree}
use Rattle.ck_syntax.specs.StatementViews.{external_tree, item_trees}
use Rattle.ck_syntax.proofs.EndLemmas.{first_along}
use Rattle.ck_syntax.proofs.RowEnds.{first_or, first_unwrap}
use Rattle.ck_syntax.proofs.externals.External.first_token.Goals as goal

pub returns-in-FunctionDefinition : goal.returns-in-FunctionDefinition
returns-in-FunctionDefinition g c =
    let f = c.in-FunctionDefinition in
    let s = specifiers (specifier_trees f.specifiers.items) in
    let d = declarator (declarator_tree f.declarator) in
    first_along external _ (ap external_tree f.is)
    (first_unwrap (λ more. s (d more)) (λ more. f.opening ∷ items (item_trees f.items.items) (f.closing ∷ more)) _ _
    c.unwrap_or.ensures
    (first_or s d _ _ c.or.ensures c.first_of_specifiers.ensures
    c.first_token-in-FunctionDefinition.ensures)
    (λ more. refl))
