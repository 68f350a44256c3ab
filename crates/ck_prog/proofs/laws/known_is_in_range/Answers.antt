use Rattle.ck_prog.proofs.SensesFit.{known_is_in_range}
use Rattle.ck_prog.proofs.laws.known_is_in_range.Goals as goal

pub returns : goal.returns
returns c = known_is_in_range
