use Rattle.std.proofs.Common.{None, ap, sym}
use Rattle.ck_grammar.specs.Trees as plain
use Rattle.ck_grammar.specs.Written.{more_params}
use Rattle.ck_syntax.specs.ExpressionViews.{parameter_before, parameter_trees}
use Rattle.ck_syntax.proofs.EndLemmas.{last_along}
use Rattle.ck_syntax.proofs.RowEnds.{last-row, parameter_rows}
use Rattle.ck_syntax.proofs.declarator_ends.last_of_parameters.Goals as goal

pub returns-in-len1-up : goal.returns-in-len1-up
returns-in-len1-up g c = last_along more_params _ (ap (λ ps. parameter_trees ps None) (sym c.as_slice.ensures.value))
    (last-row more_params parameter_before plain.NoMore parameter_rows c.as_slice.result.now
    c.parameter-item.result _ c.in-len1-up.len_at_least c.parameter-item.is c.last_token.ensures)
