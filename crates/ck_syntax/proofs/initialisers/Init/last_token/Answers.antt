use Rattle.std.proofs.Common.{Some, ap, sym, ◌∙◌}
use Rattle.ck_grammar.specs.Statements as plain
use Rattle.ck_grammar.specs.StatementsWritten.{init, inits}
use Rattle.ck_syntax.specs.InitialiserViews.{init_tree, init_trees, braced_tree, designation_option}
use Rattle.ck_syntax.specs.declared.initialisers.BracedInit.{out-BracedInit}
use Rattle.ck_syntax.proofs.EndLemmas.{last_along, closes}
use Rattle.ck_syntax.proofs.InitialiserEquations as views
use Rattle.ck_syntax.proofs.StatementsAppended.{inits_appended}
use Rattle.ck_syntax.proofs.initialisers.Init.last_token.Goals as goal

pub returns-in-Braced : goal.returns-in-Braced
returns-in-Braced g c =
    let b = out-BracedInit _ c.deref.result.now in
    let is = init_trees b.earlier.items
    (plain.LastInit (designation_option b.designation) (init_tree b.last) b.comma) in
    last_along init b.closing
    (ap init_tree c.in-Braced.is ∙ views.init_tree-Braced _
    ∙ ap braced_tree (sym c.deref.ensures) ∙ views.braced_tree-parts c.deref.result.now)
    (λ before more. closes (inits is) (inits_appended is) (Some b.opening) b.closing more)
