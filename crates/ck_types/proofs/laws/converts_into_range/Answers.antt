use Rattle.ck_types.proofs.Conversions.{converts_into_range}
use Rattle.ck_types.proofs.laws.converts_into_range.Goals as goal

pub returns : goal.returns
returns c = converts_into_range
