use Rattle.std.proofs.Common.{ap, sym}
use Rattle.ck_grammar.specs.Trees as plain
use Rattle.ck_grammar.specs.Written.{specifiers}
use Rattle.ck_syntax.specs.ExpressionViews.{specifier_before, specifier_trees}
use Rattle.ck_syntax.proofs.EndLemmas.{first_along}
use Rattle.ck_syntax.proofs.RowEnds.{first-row, specifier_rows}
use Rattle.ck_syntax.proofs.declarator_ends.first_of_specifiers.Goals as goal

pub returns-in-len1-up : goal.returns-in-len1-up
returns-in-len1-up g c = first_along specifiers _ (ap specifier_trees (sym c.as_slice.ensures.value))
    (first-row specifiers specifier_before plain.NoSpecifiers specifier_rows c.as_slice.result.now
    c.specifier-item.result _ c.in-len1-up.len_at_least c.specifier-item.is c.first_token.ensures)
