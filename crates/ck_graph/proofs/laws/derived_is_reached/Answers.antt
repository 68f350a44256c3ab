use Rattle.ck_graph.proofs.MatchedPaths.{reached}
use Rattle.ck_graph.proofs.laws.derived_is_reached.Goals as goal

pub returns : goal.returns
returns c = reached
