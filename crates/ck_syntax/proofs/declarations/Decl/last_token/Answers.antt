use Rattle.std.proofs.Common.{◌∷◌, [], ap, ◌∙◌}
use Rattle.ck_grammar.specs.StatementsWritten.{declared, declaration}
use Rattle.ck_grammar.specs.Written.{specifiers, declarator}
use Rattle.ck_grammar.proofs.Appended.{specifiers_appended}
use Rattle.ck_syntax.specs.DeclarationViews.{declaration_tree, declared_tree, declared_trees}
use Rattle.ck_syntax.specs.Ends.{last_after}
use Rattle.ck_syntax.specs.ExpressionViews.{specifier_trees, declarator_tree}
use Rattle.ck_syntax.proofs.EndLemmas.{last_along, closes, last-specifiers, last-declarator}
use Rattle.ck_syntax.proofs.StatementsAppended.{declared_appended}
use Rattle.ck_syntax.proofs.declarations.Decl.last_token.Goals as goal

pub returns-in-Bare : goal.returns-in-Bare
returns-in-Bare g c = last_along declaration c.in-Bare.semicolon (ap declaration_tree c.in-Bare.is)
    (λ before more. closes (specifiers (specifier_trees c.in-Bare.specifiers.items))
    (specifiers_appended (specifier_trees c.in-Bare.specifiers.items)) before c.in-Bare.semicolon more)

pub returns-in-Declares : goal.returns-in-Declares
returns-in-Declares g c =
    let s = specifier_trees c.in-Declares.specifiers.items in
    let d = declarator_tree c.in-Declares.declarator in
    let rest = declared_tree c.in-Declares.initialiser (declared_trees c.in-Declares.others.items) in
    last_along declaration c.in-Declares.semicolon (ap declaration_tree c.in-Declares.is)
    (λ before more. last-specifiers before s (declarator d (declared rest (c.in-Declares.semicolon ∷ more)))
    ∙ last-declarator (last_after before (specifiers s [])) d (declared rest (c.in-Declares.semicolon ∷ more))
    ∙ closes (declared rest) (declared_appended rest)
    (last_after (last_after before (specifiers s [])) (declarator d [])) c.in-Declares.semicolon more)
