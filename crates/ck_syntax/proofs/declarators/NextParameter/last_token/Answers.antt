use Rattle.std.proofs.Common.{◌∷◌, refl}
use Rattle.ck_grammar.specs.Written.{specifiers, declarator}
use Rattle.ck_syntax.specs.ExpressionViews.{specifier_trees, declarator_tree}
use Rattle.ck_syntax.proofs.RowEnds.{last_or, last_unwrap}
use Rattle.ck_syntax.proofs.declarators.NextParameter.last_token.Goals as goal

pub returns : goal.returns
returns g c =
    let p = c.args.self.now in
    let s = specifiers (specifier_trees p.specifiers.items) in
    let d = declarator (declarator_tree p.declarator) in
    last_unwrap (◌∷◌ p.comma) (λ more. s (d more)) _ _ c.unwrap_or.ensures (λ before more. refl)
    (last_or s d _ _ c.or.ensures c.last_of_specifiers.ensures c.last_token.ensures)
