use Rattle.ck_origins.proofs.Growing.{numbers_stay}
use Rattle.ck_origins.proofs.growth.numbers_stay.Goals as goal

pub returns : goal.returns
returns c = numbers_stay
