use Rattle.std.proofs.Common.{[], ◌∷◌, ◌∙◌}
use Rattle.ck_grammar.proofs.Appended.{declarators_appended}
use Rattle.ck_grammar.specs.Trees as plain
use Rattle.ck_grammar.specs.Written.{members, specifiers, declarator, declarators}
use Rattle.ck_syntax.specs.Ends.{last_after}
use Rattle.ck_syntax.specs.ExpressionViews.{specifier_trees, declarator_tree, declarator_trees}
use Rattle.ck_syntax.specs.declared.specifiers.Member.{out-Member}
use Rattle.ck_syntax.proofs.EndLemmas.{last_along, closes, last-specifiers, last-declarator}
use Rattle.ck_syntax.proofs.Equations as views
use Rattle.ck_syntax.proofs.specifiers.Member.last_token.Goals as goal

pub returns : goal.returns
returns g c =
    let m = out-Member _ c.args.self.now in
    let s = specifier_trees m.specifiers.items in
    let d = declarator_tree m.first in
    let ds = declarator_trees m.others.items in
    last_along members m.semicolon (views.member_before-parts c.args.self.now plain.NoMembers)
    (λ before more. last-specifiers before s (declarator d (declarators ds (m.semicolon ∷ more)))
    ∙ last-declarator (last_after before (specifiers s [])) d (declarators ds (m.semicolon ∷ more))
    ∙ closes (declarators ds) (declarators_appended ds)
    (last_after (last_after before (specifiers s [])) (declarator d [])) m.semicolon more)
