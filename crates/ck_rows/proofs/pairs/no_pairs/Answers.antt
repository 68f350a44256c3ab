use Rattle.ck_rows.proofs.SinglePairs.{none-pairs}
use Rattle.ck_rows.proofs.pairs.no_pairs.Goals as goal

pub returns-clause-pairs : goal.returns-clause-pairs
returns-clause-pairs c = none-pairs
