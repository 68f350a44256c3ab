use Rattle.ck_points.proofs.EdgesStay.{edges_stay}
use Rattle.ck_points.proofs.laws.edges_stay.Goals as goal

pub returns : goal.returns
returns c = edges_stay
