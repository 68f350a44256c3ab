use Rattle.std.proofs.Common.{refl}
use Rattle.ck_kernel.specs.KernelTable.{kernel_table}
use Rattle.ck_kernel.proofs.rows.calls.Goals as goal

pub returns : goal.returns
unfolding kernel_table
returns c = refl
