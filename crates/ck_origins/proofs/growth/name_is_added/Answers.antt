use Rattle.ck_origins.proofs.Growing.{name_is_added}
use Rattle.ck_origins.proofs.growth.name_is_added.Goals as goal

pub returns : goal.returns
returns c = name_is_added
