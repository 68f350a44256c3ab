use Rattle.ck_points.proofs.StatementsApart.{places_differ}
use Rattle.ck_points.proofs.laws.places_differ.Goals as goal

pub returns : goal.returns
returns c = places_differ
