use Rattle.ck_kernel.proofs.LawLemmas.{entries_are_parameters}
use Rattle.ck_kernel.proofs.laws.entry_parameters_are_parameters.Goals as goal

pub returns : goal.returns
returns c = entries_are_parameters
