use Rattle.ck_prog.proofs.FirstRefused.{tells_the_first}
use Rattle.ck_prog.proofs.body_laws.tells_the_first.Goals as goal

pub returns : goal.returns
returns c = tells_the_first
