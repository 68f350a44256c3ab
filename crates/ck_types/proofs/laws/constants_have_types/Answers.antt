use Rattle.ck_types.proofs.TypedConstants.{constants-typed}
use Rattle.ck_types.proofs.laws.constants_have_types.Goals as goal

pub returns : goal.returns
returns c = constants-typed
