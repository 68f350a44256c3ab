use Rattle.ck_prog.proofs.Growth.{stays_orderly}
use Rattle.ck_prog.proofs.laws.stays_orderly.Goals as goal

pub returns : goal.returns
returns c = stays_orderly
