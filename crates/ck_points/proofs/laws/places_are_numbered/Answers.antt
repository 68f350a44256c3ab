use Rattle.ck_points.proofs.OneNumber.{places_are_numbered}
use Rattle.ck_points.proofs.laws.places_are_numbered.Goals as goal

pub returns : goal.returns
returns c = places_are_numbered
