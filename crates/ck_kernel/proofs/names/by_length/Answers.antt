use Rattle.std.proofs.Common.{refl}
use Rattle.ck_kernel.specs.KernelTable.{kernel_table}
use Rattle.ck_kernel.proofs.RowLemmas.{finds_rows}
use Rattle.ck_kernel.proofs.names.by_length.Goals as goal

pub returns : goal.returns
unfolding kernel_table
returns c = finds_rows _ refl
