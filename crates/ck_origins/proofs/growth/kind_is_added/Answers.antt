use Rattle.ck_origins.proofs.Growing.{kind_is_added}
use Rattle.ck_origins.proofs.growth.kind_is_added.Goals as goal

pub returns : goal.returns
returns c = kind_is_added
