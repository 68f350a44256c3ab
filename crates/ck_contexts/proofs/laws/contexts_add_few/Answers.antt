use Rattle.ck_contexts.proofs.Grown.{add-few}
use Rattle.ck_contexts.proofs.laws.contexts_add_few.Goals as goal

pub returns : goal.returns
returns c = add-few
