use Rattle.ck_tallies.proofs.GoTogether.{told_together}
use Rattle.ck_tallies.proofs.laws.tallies_tell.Goals as goal

pub returns : goal.returns
returns c w s place = told_together w s place
