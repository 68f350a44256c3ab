use Rattle.ck_prog.proofs.SenseOfTyped.{sense-typed}
use Rattle.ck_prog.proofs.laws.typed_keeps_sense.Goals as goal

pub returns : goal.returns
returns c = sense-typed
