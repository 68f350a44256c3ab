use Rattle.std.proofs.Common.{Some, ◌∷◌, [], ap, ◌∙◌}
use Rattle.ck_grammar.specs.StatementsWritten.{external, items}
use Rattle.ck_grammar.specs.Written.{specifiers, declarator}
use Rattle.ck_syntax.specs.Ends.{last_after}
use Rattle.ck_syntax.specs.ExpressionViews.{specifier_trees, declarator_tree}
use Rattle.ck_syntax.specs.StatementViews.{external_tree, item_trees}
use Rattle.ck_syntax.proofs.EndLemmas.{last_along, closes, last-specifiers, last-declarator}
use Rattle.ck_syntax.proofs.StatementsAppended.{items_appended}
use Rattle.ck_syntax.proofs.externals.External.last_token.Goals as goal

pub returns-in-FunctionDefinition : goal.returns-in-FunctionDefinition
returns-in-FunctionDefinition g c =
    let f = c.in-FunctionDefinition in
    let s = specifier_trees f.specifiers.items in
    let d = declarator_tree f.declarator in
    let body = item_trees f.items.items in
    last_along external f.closing (ap external_tree f.is)
    (λ before more. last-specifiers before s (declarator d (f.opening ∷ items body (f.closing ∷ more)))
    ∙ last-declarator (last_after before (specifiers s [])) d (f.opening ∷ items body (f.closing ∷ more))
    ∙ closes (items body) (items_appended body) (Some f.opening) f.closing more)
