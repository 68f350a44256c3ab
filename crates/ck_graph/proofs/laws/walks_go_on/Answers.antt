use Rattle.ck_graph.proofs.MatchedPaths.{walks}
use Rattle.ck_graph.proofs.laws.walks_go_on.Goals as goal

pub returns : goal.returns
returns c = walks
