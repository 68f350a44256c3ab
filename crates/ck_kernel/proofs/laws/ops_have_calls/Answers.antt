use Rattle.ck_kernel.proofs.LawLemmas.{ops_have_calls}
use Rattle.ck_kernel.proofs.laws.ops_have_calls.Goals as goal

pub returns : goal.returns
returns c = ops_have_calls
