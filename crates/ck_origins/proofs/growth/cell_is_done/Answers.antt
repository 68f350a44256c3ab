use Rattle.ck_origins.proofs.Growing.{cell_is_done}
use Rattle.ck_origins.proofs.growth.cell_is_done.Goals as goal

pub returns : goal.returns
returns c = cell_is_done
