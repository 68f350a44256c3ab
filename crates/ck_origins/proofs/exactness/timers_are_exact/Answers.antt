use Rattle.ck_origins.proofs.ExactLaws.{timers_are_exact}
use Rattle.ck_origins.proofs.exactness.timers_are_exact.Goals as goal

pub returns : goal.returns
returns c = timers_are_exact
