use Rattle.ck_kernel.proofs.LawLemmas.{rows_have_their_names, names_have_their_rows, others_have_none}
use Rattle.ck_kernel.proofs.laws.names_and_rows_are_inverse.Goals as goal

pub returns : goal.returns
returns c = record { rows = rows_have_their_names; names = names_have_their_rows; others = others_have_none }
