use Rattle.std.proofs.Common.{None, ap, ◌∙◌}
use Rattle.ck_grammar.specs.Trees as plain
use Rattle.ck_grammar.specs.Written.{specifiers, declarator, params, more_params}
use Rattle.ck_syntax.specs.Ends.{last_after}
use Rattle.ck_syntax.specs.ExpressionViews.{specifier_trees, declarator_tree, parameters_tree, parameter_before}
use Rattle.ck_syntax.specs.ExpressionViews.{parameter_trees, ellipsis_tree}
use Rattle.ck_syntax.proofs.Equations as views
use Rattle.ck_syntax.proofs.RowEnds.{last_view, last_or, written_apart, parameter_rows}
use Rattle.ck_syntax.proofs.declarators.Parameters.last_token.Goals as goal

pub returns-in-Listed : goal.returns-in-Listed
returns-in-Listed g c =
    let p = c.in-Listed in
    let s = specifiers (specifier_trees p.specifiers.items) in
    let d = declarator (declarator_tree p.declarator) in
    let others = more_params (parameter_trees p.others.items None) in
    let end = ellipsis_tree p.ellipsis in
    let one = last_or others (more_params end) _ _ c.or.ensures c.last_of_parameters.ensures
    c.last_of_ellipsis.ensures in
    let two = last_or d (λ more. others (more_params end more)) _ _ c.or-in-Listed.ensures c.last_token.ensures one in
    let three = last_or s (λ more. d (others (more_params end more))) _ _ c.or-in-Listed-2.ensures
    c.last_of_specifiers.ensures two in
    last_view params _ (ap parameters_tree p.is ∙ views.parameters_tree-Listed _ _ _ _)
    (λ before more. ap (λ us. last_after before (s (d us)))
    (written_apart more_params parameter_before plain.NoMore parameter_rows p.others.items end more)
    ∙ three before more)
