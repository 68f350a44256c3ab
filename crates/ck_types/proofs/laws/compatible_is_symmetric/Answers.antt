use Rattle.ck_types.proofs.Compatible.{is_symmetric}
use Rattle.ck_types.proofs.laws.compatible_is_symmetric.Goals as goal

pub returns : goal.returns
returns c = is_symmetric
