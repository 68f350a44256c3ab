-- The kernel's own part of the world: its threads as it knows them, its handlers, its two counters, its phase. It knows
-- no stack, no value and no system state.
use Rattle.std.specs.Prelude.{ℕ, pos, Bool, List, Option}
use Rattle.ck_base.specs.declared.ops.Op.{Op}
use Rattle.ck_base.specs.Counters.{counters, halt_of}
use Rattle.ck_sound.specs.declared.threads.Thread.{Thread}
use Rattle.ck_sound.specs.declared.kernel.Phase.{Phase}
use Rattle.ck_sound.specs.declared.kernel.Source.{Source}
use Rattle.ck_sound.specs.declared.stops.Stop.{Stop}
use Rattle.ck_sound.specs.declared.stops.Stop.TheVariants as machine
use Rattle.ck_sound.specs.Threads.{thread_at}

-- threads in order of their creation; the number of the running one; handlers with the top one first; `leaving`, that
-- the only regular handler has made its epilogue
pub record Kernel : Type 0 where
  pub threads : List Thread
  pub running : ℕ
  pub handlers : List Source
  pub isr_cnt : ℕ
  pub lock_cnt : ℕ
  pub phase : Phase
  pub leaving : Bool

abbrev pub running_thread : Kernel → Thread
running_thread k = thread_at k.threads k.running

-- the check that a call makes of the two counters
abbrev pub checked : Kernel → Op → Option ℕ
checked k op = halt_of op (counters (pos k.isr_cnt) (pos k.lock_cnt))

-- what an act asks of the kernel besides its class: a new thread with this stack, another priority for the running one,
-- or the status that chSysRestoreStatusX is given, where true stands for "locked"
pub data Request (C : Type 0) : Type 0 where
  Nothing : Request C
  Creates : C → (priority : ℕ) → (suspended : Bool) → Request C
  SetsPriority : ℕ → Request C
  Restores : (locked : Bool) → Request C

-- what an act leaves: the kernel, whether the machine goes on, and the choices that are left
pub record Done : Type 0 where
  pub kernel : Kernel
  pub stop : Stop
  pub choices : List ℕ

abbrev pub goes : Kernel → List ℕ → Done
goes k choices = record { kernel = k; stop = machine.Running; choices = choices }

abbrev pub stops : Stop → Kernel → List ℕ → Done
stops stop k choices = record { kernel = k; stop = stop; choices = choices }
