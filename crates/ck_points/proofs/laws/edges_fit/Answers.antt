use Rattle.ck_points.proofs.EdgesFit.{edges_fit}
use Rattle.ck_points.proofs.laws.edges_fit.Goals as goal

pub returns : goal.returns
returns c = edges_fit
