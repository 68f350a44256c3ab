use Rattle.ck_kernel.proofs.RowLemmas.{no_call}
use Rattle.ck_kernel.proofs.names.row_of.Goals as goal

pub returns-else-begins_like_a_call-clause-row : goal.returns-else-begins_like_a_call-clause-row
returns-else-begins_like_a_call-clause-row c =
    let is = rw c.as_bytes-text.ensures.value at c.begins_like_a_call.ensures in
    no_call c.args.name.now c.begins_like_a_call.result is c.if-begins_like_a_call.false
