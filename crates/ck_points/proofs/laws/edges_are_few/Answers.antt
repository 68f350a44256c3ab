use Rattle.ck_points.proofs.FewEdges.{edges_are_few}
use Rattle.ck_points.proofs.laws.edges_are_few.Goals as goal

pub returns : goal.returns
returns c = edges_are_few
