-- Rows of the table, as docs/KERNEL.md has them.
use Rattle.std.proofs.Common.{◌≡◌, Some, None, refl}
use Rattle.std.specs.Prelude.{codes}
use Rattle.ck_base.specs.declared.ops.Op.TheVariants.{Init, Normal, IWakes, Free, GetStatus, RestoreStatus}
use Rattle.ck_kernel.specs.declared.entries.EntrySink.TheVariants.{Absent, Thread, Descriptor, Timer}
use Rattle.ck_kernel.specs.KernelTable.{call, kernel_table, call_at, row_named, row_numbered}

first_row : call_at (row_numbered 0) ≡ Some (call "chSysInit" Init 0 Absent)
unfolding kernel_table
first_row = refl

a_thread : call_at (row_numbered 11) ≡ Some (call "chThdCreateStatic" Normal 5 (Thread 4))
unfolding kernel_table
a_thread = refl

a_descriptor : call_at (row_numbered 69) ≡ Some (call "chThdCreateI" IWakes 1 Descriptor)
unfolding kernel_table
a_descriptor = refl

a_timer : call_at (row_numbered 60) ≡ Some (call "chVTSet" Normal 4 (Timer 3))
unfolding kernel_table
a_timer = refl

last_but_the_pair : call_at (row_numbered 133) ≡ Some (call "chThdQueueObjectInit" Free 1 Absent)
unfolding kernel_table
last_but_the_pair = refl

status_given : call_at (row_numbered 134) ≡ Some (call "chSysGetStatusAndLockX" GetStatus 0 Absent)
unfolding kernel_table
status_given = refl

status_taken : call_at (row_numbered 135) ≡ Some (call "chSysRestoreStatusX" RestoreStatus 1 Absent)
unfolding kernel_table
status_taken = refl

past_the_last : call_at (row_numbered 136) ≡ None
unfolding kernel_table
past_the_last = refl

a_name : row_named (codes "chSysRestoreStatusX") ≡ Some (row_numbered 135)
unfolding kernel_table
a_name = refl

no_name : row_named (codes "chSysUnconditionalLock") ≡ None
unfolding kernel_table
no_name = refl
