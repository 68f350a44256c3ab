use Rattle.ck_origins.proofs.Growing.{cell_is_added}
use Rattle.ck_origins.proofs.growth.cell_is_added.Goals as goal

pub returns : goal.returns
returns c = cell_is_added
