use Rattle.ck_prog.proofs.FirstRefused.{tells_some}
use Rattle.ck_prog.proofs.body_laws.tells_some.Goals as goal

pub returns : goal.returns
returns c = tells_some
