use Rattle.std.proofs.Common.{◌∷◌, refl, ap}
use Rattle.ck_grammar.specs.StatementsWritten.{declared, declaration}
use Rattle.ck_grammar.specs.Written.{specifiers, declarator}
use Rattle.ck_syntax.specs.DeclarationViews.{declaration_tree, declared_tree, declared_trees}
use Rattle.ck_syntax.specs.ExpressionViews.{specifier_trees, declarator_tree}
use Rattle.ck_syntax.proofs.EndLemmas.{first_along}
use Rattle.ck_syntax.proofs.RowEnds.{first_or, first_unwrap}
use Rattle.ck_syntax.proofs.declarations.Decl.first_token.Goals as goal

pub returns-in-Bare : goal.returns-in-Bare
returns-in-Bare g c =
    let d = c.in-Bare in
    first_along declaration _ (ap declaration_tree d.is)
    (first_unwrap (specifiers (specifier_trees d.specifiers.items)) (◌∷◌ d.semicolon) _ _ c.unwrap_or.ensures
    c.first_of_specifiers.ensures (λ more. refl))

pub returns-in-Declares : goal.returns-in-Declares
returns-in-Declares g c =
    let e = c.in-Declares in
    let s = specifiers (specifier_trees e.specifiers.items) in
    let d = declarator (declarator_tree e.declarator) in
    let rest = declared_tree e.initialiser (declared_trees e.others.items) in
    first_along declaration _ (ap declaration_tree e.is)
    (first_unwrap (λ more. s (d more)) (λ more. declared rest (e.semicolon ∷ more)) _ _ c.unwrap_or-in-Declares.ensures
    (first_or s d _ _ c.or.ensures c.first_of_specifiers-in-Declares.ensures c.first_token.ensures)
    c.after_declarator.ensures)
