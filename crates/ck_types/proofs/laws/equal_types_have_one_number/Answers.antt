use Rattle.ck_types.proofs.OneNumber.{equal-one_number}
use Rattle.ck_types.proofs.laws.equal_types_have_one_number.Goals as goal

pub returns : goal.returns
returns c = equal-one_number
