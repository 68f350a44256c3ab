use Rattle.ck_prog.proofs.CallsAscend.{calls_ascend}
use Rattle.ck_prog.proofs.body_laws.calls_ascend.Goals as goal

pub returns : goal.returns
returns c = calls_ascend
