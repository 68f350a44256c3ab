use Rattle.ck_types.proofs.InRange.{binary-range, unary-range}
use Rattle.ck_types.proofs.laws.operators_stay_in_range.Goals as goal

pub returns : goal.returns
returns c = record { binary = binary-range; unary = unary-range }
