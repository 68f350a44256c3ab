use Rattle.ck_origins.proofs.Growing.{call_is_added}
use Rattle.ck_origins.proofs.growth.call_is_added.Goals as goal

pub returns : goal.returns
returns c = call_is_added
