use Rattle.ck_kernel.proofs.LawLemmas.{names_differ}
use Rattle.ck_kernel.proofs.laws.names_differ.Goals as goal

pub returns : goal.returns
returns c = names_differ
