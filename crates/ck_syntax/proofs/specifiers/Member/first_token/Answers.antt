use Rattle.std.proofs.Common.{◌∷◌}
use Rattle.ck_grammar.specs.Trees as plain
use Rattle.ck_grammar.specs.Written.{members, specifiers, declarator, declarators}
use Rattle.ck_syntax.specs.ExpressionViews.{specifier_trees, declarator_tree, declarator_trees}
use Rattle.ck_syntax.specs.declared.specifiers.Member.{out-Member}
use Rattle.ck_syntax.proofs.Equations as views
use Rattle.ck_syntax.proofs.EndLemmas.{first_along}
use Rattle.ck_syntax.proofs.RowEnds.{first_or, first_unwrap}
use Rattle.ck_syntax.proofs.specifiers.Member.first_token.Goals as goal

pub returns : goal.returns
returns g c =
    let m = out-Member _ c.args.self.now in
    let s = specifiers (specifier_trees m.specifiers.items) in
    let d = declarator (declarator_tree m.first) in
    first_along members _ (views.member_before-parts c.args.self.now plain.NoMembers)
    (first_unwrap (λ more. s (d more)) (λ more. declarators (declarator_trees m.others.items) (m.semicolon ∷ more)) _ _
    c.unwrap_or.ensures (first_or s d _ _ c.or.ensures c.first_of_specifiers.ensures c.first_token.ensures)
    c.after_first.ensures)
