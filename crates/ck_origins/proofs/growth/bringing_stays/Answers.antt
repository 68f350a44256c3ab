use Rattle.ck_origins.proofs.Growing.{bringing_stays}
use Rattle.ck_origins.proofs.growth.bringing_stays.Goals as goal

pub returns : goal.returns
returns c = bringing_stays
