use Rattle.ck_origins.proofs.ExactLaws.{threads_are_exact}
use Rattle.ck_origins.proofs.exactness.threads_are_exact.Goals as goal

pub returns : goal.returns
returns c = threads_are_exact
