use Rattle.ck_origins.proofs.ExactLaws.{listed_targets_are_exact}
use Rattle.ck_origins.proofs.exactness.listed_targets_are_exact.Goals as goal

pub returns : goal.returns
returns c = listed_targets_are_exact
