use Rattle.ck_origins.proofs.ExactLaws.{cells_are_exact}
use Rattle.ck_origins.proofs.exactness.cells_are_exact.Goals as goal

pub returns : goal.returns
returns c = cells_are_exact
