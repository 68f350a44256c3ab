use Rattle.ck_types.proofs.Compatible.{is_reflexive}
use Rattle.ck_types.proofs.laws.compatible_is_reflexive.Goals as goal

pub returns : goal.returns
returns c = is_reflexive
