use Rattle.std.proofs.Common.{refl}
use Rattle.ck_kernel.specs.KernelTable.{kernel_table}
use Rattle.ck_contexts.proofs.laws.acts_are_kernel_calls.Goals as goal

pub returns : goal.returns
unfolding kernel_table
returns c = record { locks = λ n. refl; unlocks = λ n. refl; begins = λ n. refl; ends = λ n. refl }
