-- The kernel's acts in synthetic functions are rows of the kernel's call table.
use Rattle.std.specs.Prelude.{◌≡◌, ℕ, Some}
use Prim.Native.String.{String}
use Rattle.ck_graph.specs.declared.points.ActName.TheVariants.{Kernel}
use Rattle.ck_kernel.specs.declared.entries.EntrySink.TheVariants.{Absent}
use Rattle.ck_kernel.specs.KernelTable.{call, call_at}
use Rattle.ck_contexts.specs.declared.steps.Step.{Step}
use Rattle.ck_contexts.specs.declared.steps.Step.TheVariants.{Act}
use Rattle.ck_contexts.specs.Synthetic.{lock, unlock, prologue, epilogue}

-- a step is the act of the kernel call of this name, which has no parameters
abbrev pub IsActOf : String → Step → Type 0
IsActOf name (Act op (Kernel row) next) = call_at row ≡ Some (call name op 0 Absent)
IsActOf name _ = ⊥

pub record ActsAreKernelCalls : Type 0 where
  pub locks : (next : ℕ) → IsActOf "chSysLockFromISR" (lock next)
  pub unlocks : (next : ℕ) → IsActOf "chSysUnlockFromISR" (unlock next)
  pub begins : (next : ℕ) → IsActOf "CH_IRQ_PROLOGUE" (prologue next)
  pub ends : (next : ℕ) → IsActOf "CH_IRQ_EPILOGUE" (epilogue next)
