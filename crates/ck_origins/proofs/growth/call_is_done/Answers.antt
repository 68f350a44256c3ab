use Rattle.ck_origins.proofs.Growing.{call_is_done}
use Rattle.ck_origins.proofs.growth.call_is_done.Goals as goal

pub returns : goal.returns
returns c = call_is_done
