use Rattle.std.proofs.Common.{Some, ◌∷◌, ap, ◌∙◌}
use Rattle.ck_grammar.proofs.Appended.{params_appended}
use Rattle.ck_grammar.specs.Trees as plain
use Rattle.ck_grammar.specs.Written.{dims, params}
use Rattle.ck_syntax.specs.ExpressionViews.{expr_tree, dim_before, parameters_tree}
use Rattle.ck_syntax.proofs.EndLemmas.{last_along, last-written, closes}
use Rattle.ck_syntax.proofs.Equations as views
use Rattle.ck_syntax.proofs.declarators.Dim.last_token.Goals as goal

pub returns-in-Sized : goal.returns-in-Sized
returns-in-Sized g c = last_along dims c.in-Sized.closing
    (ap (λ d. dim_before d plain.NoDims) c.in-Sized.is ∙ views.dim_before-Sized _ _ _ plain.NoDims)
    (λ before more. last-written (Some c.in-Sized.opening) (expr_tree c.in-Sized.size.value)
    (c.in-Sized.closing ∷ more))

pub returns-in-Function : goal.returns-in-Function
returns-in-Function g c = last_along dims c.in-Function.closing
    (ap (λ d. dim_before d plain.NoDims) c.in-Function.is ∙ views.dim_before-Function _ _ _ plain.NoDims)
    (λ before more. closes (params (parameters_tree c.in-Function.parameters.value))
    (params_appended (parameters_tree c.in-Function.parameters.value)) (Some c.in-Function.opening)
    c.in-Function.closing more)
