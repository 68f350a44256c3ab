use Rattle.ck_origins.proofs.ExactLaws.{targets_are_exact}
use Rattle.ck_origins.proofs.exactness.targets_are_exact.Goals as goal

pub returns : goal.returns
returns c = targets_are_exact
