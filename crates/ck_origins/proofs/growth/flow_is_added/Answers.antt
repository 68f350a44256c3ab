use Rattle.ck_origins.proofs.Growing.{flow_is_added}
use Rattle.ck_origins.proofs.growth.flow_is_added.Goals as goal

pub returns : goal.returns
returns c = flow_is_added
