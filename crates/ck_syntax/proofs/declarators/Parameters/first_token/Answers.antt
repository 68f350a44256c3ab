use Rattle.std.proofs.Common.{None, ap, ◌∙◌}
use Rattle.ck_grammar.specs.Trees as plain
use Rattle.ck_grammar.specs.Written.{specifiers, declarator, params, more_params}
use Rattle.ck_syntax.specs.Ends.{first}
use Rattle.ck_syntax.specs.ExpressionViews.{specifier_trees, declarator_tree, parameters_tree, parameter_before}
use Rattle.ck_syntax.specs.ExpressionViews.{parameter_trees, ellipsis_tree}
use Rattle.ck_syntax.proofs.Equations as views
use Rattle.ck_syntax.proofs.RowEnds.{first_view, first_or, written_apart, parameter_rows}
use Rattle.ck_syntax.proofs.declarators.Parameters.first_token.Goals as goal

pub returns-in-Listed : goal.returns-in-Listed
returns-in-Listed g c =
    let p = c.in-Listed in
    let s = specifiers (specifier_trees p.specifiers.items) in
    let d = declarator (declarator_tree p.declarator) in
    let others = more_params (parameter_trees p.others.items None) in
    let end = ellipsis_tree p.ellipsis in
    let one = first_or s d _ _ c.or.ensures c.first_of_specifiers.ensures c.first_token.ensures in
    let two = first_or (λ more. s (d more)) others _ _ c.or-in-Listed.ensures one c.first_of_parameters.ensures in
    let three = first_or (λ more. s (d (others more))) (more_params end) _ _ c.or-in-Listed-2.ensures two
    c.first_of_ellipsis.ensures in
    first_view params _ (ap parameters_tree p.is ∙ views.parameters_tree-Listed _ _ _ _)
    (λ more. ap (λ us. first (s (d us)))
    (written_apart more_params parameter_before plain.NoMore parameter_rows p.others.items end more) ∙ three more)
