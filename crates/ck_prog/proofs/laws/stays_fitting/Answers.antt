use Rattle.ck_prog.proofs.Growth.{stays_fitting}
use Rattle.ck_prog.proofs.laws.stays_fitting.Goals as goal

pub returns : goal.returns
returns c = stays_fitting
