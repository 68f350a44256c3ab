use Rattle.ck_prog.proofs.Growth.{declarations_stay}
use Rattle.ck_prog.proofs.laws.declarations_stay.Goals as goal

pub returns : goal.returns
returns c = declarations_stay
