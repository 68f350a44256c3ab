use Rattle.ck_types.proofs.Conversions.{converts_to_itself}
use Rattle.ck_types.proofs.laws.converts_to_itself.Goals as goal

pub returns : goal.returns
returns c = converts_to_itself
