use Rattle.ck_graph.proofs.Coverage.{covers}
use Rattle.ck_graph.proofs.laws.closed_covers_walks.Goals as goal

pub returns : goal.returns
returns c = covers
