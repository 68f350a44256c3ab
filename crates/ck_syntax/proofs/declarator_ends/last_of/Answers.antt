use Rattle.std.proofs.Common.{None, ap, ◌∙◌}
use Rattle.ck_syntax.specs.Ends.{last_after}
use Rattle.ck_syntax.proofs.RowEnds.{last-of}
use Rattle.ck_syntax.proofs.declarator_ends.last_of.Goals as goal

pub returns-in-len1-up : goal.returns-in-len1-up
returns-in-len1-up g c =
    last-of c.as_slice.result.now _ c.in-len1-up.len_at_least ∙ ap (last_after None) c.as_slice.ensures.value
