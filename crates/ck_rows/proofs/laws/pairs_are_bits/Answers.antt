use Rattle.ck_rows.proofs.PairLists.{pairs-bits}
use Rattle.ck_rows.proofs.laws.pairs_are_bits.Goals as goal

pub returns : goal.returns
returns c = pairs-bits
