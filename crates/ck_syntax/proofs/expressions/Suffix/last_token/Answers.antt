use Rattle.std.proofs.Common.{Some, ◌∷◌, ap, ◌∙◌}
use Rattle.ck_grammar.specs.Trees as plain
use Rattle.ck_grammar.specs.Written.{suffixes}
use Rattle.ck_syntax.specs.ExpressionViews.{expr_tree, operand_trees, suffix_before}
use Rattle.ck_syntax.proofs.EndLemmas.{last_along, last-written, last-arguments}
use Rattle.ck_syntax.proofs.Equations as views
use Rattle.ck_syntax.proofs.expressions.Suffix.last_token.Goals as goal

pub returns-in-Index : goal.returns-in-Index
returns-in-Index g c = last_along suffixes c.in-Index.closing
    (ap (λ s. suffix_before s plain.NoSuffixes) c.in-Index.is ∙ views.suffix_before-Index _ _ _ plain.NoSuffixes)
    (λ before more. last-written (Some c.in-Index.opening) (expr_tree c.in-Index.index.value)
    (c.in-Index.closing ∷ more))

pub returns-in-Call : goal.returns-in-Call
returns-in-Call g c = last_along suffixes c.in-Call.closing
    (ap (λ s. suffix_before s plain.NoSuffixes) c.in-Call.is ∙ views.suffix_before-Call _ _ _ _ plain.NoSuffixes)
    (λ before more. last-arguments (Some c.in-Call.opening) (expr_tree c.in-Call.first.value)
    (operand_trees c.in-Call.others.items) c.in-Call.closing more)
