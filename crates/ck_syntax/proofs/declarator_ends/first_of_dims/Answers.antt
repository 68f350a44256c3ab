use Rattle.std.proofs.Common.{ap, sym}
use Rattle.ck_grammar.specs.Trees as plain
use Rattle.ck_grammar.specs.Written.{dims}
use Rattle.ck_syntax.specs.ExpressionViews.{dim_before, dim_trees}
use Rattle.ck_syntax.proofs.EndLemmas.{first_along}
use Rattle.ck_syntax.proofs.RowEnds.{first-row, dim_rows}
use Rattle.ck_syntax.proofs.declarator_ends.first_of_dims.Goals as goal

pub returns-in-len1-up : goal.returns-in-len1-up
returns-in-len1-up g c = first_along dims _ (ap dim_trees (sym c.as_slice.ensures.value))
    (first-row dims dim_before plain.NoDims dim_rows c.as_slice.result.now c.dim-item.result _ c.in-len1-up.len_at_least
    c.dim-item.is c.first_token.ensures)
