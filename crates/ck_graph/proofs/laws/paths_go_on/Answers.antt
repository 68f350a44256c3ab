use Rattle.ck_graph.proofs.MatchedPaths.{paths}
use Rattle.ck_graph.proofs.laws.paths_go_on.Goals as goal

pub returns : goal.returns
returns c = paths
