use Rattle.ck_origins.proofs.Growing.{given_is_done}
use Rattle.ck_origins.proofs.growth.given_is_done.Goals as goal

pub returns : goal.returns
returns c = given_is_done
