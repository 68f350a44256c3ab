use Rattle.ck_origins.proofs.ExactLaws.{slots_are_exact}
use Rattle.ck_origins.proofs.exactness.slots_are_exact.Goals as goal

pub returns : goal.returns
returns c = slots_are_exact
