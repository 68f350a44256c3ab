use Rattle.ck_segments.proofs.Fitting.{walks}
use Rattle.ck_segments.proofs.laws.paths_are_walks.Goals as goal

pub returns : goal.returns
returns c = walks
