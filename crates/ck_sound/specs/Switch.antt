-- The unlock check, switches, and how a thread leaves the processor.
use Rattle.std.specs.Prelude.{ℕ, zero, suc, ◌%◌, Bool, true, false, if◌then◌else◌, List, Option, Some, None, slice_set}
use Rattle.ck_base.specs.declared.ops.Op.TheVariants.{Unlock}
use Rattle.ck_base.specs.declared.states.Kind.TheVariants.{Sv, Order}
use Rattle.ck_sound.specs.declared.threads.ThreadStatus.{ThreadStatus}
use Rattle.ck_sound.specs.declared.threads.ThreadStatus.TheVariants.{Running, Ready, Waiting}
use Rattle.ck_sound.specs.declared.threads.Left.{Left}
use Rattle.ck_sound.specs.declared.threads.Left.TheVariants.{InSCall}
use Rattle.ck_sound.specs.declared.stops.Stop.TheVariants as machine
use Rattle.ck_sound.specs.Choices.{first, later}
use Rattle.ck_sound.specs.Threads.{thread_at, ready_above, is_best, count, nth_place}
use Rattle.ck_sound.specs.Kernel.{Kernel, Done, running_thread, checked, goes, stops}

-- Unlock: the check of SV#5 is made; where a ready thread is above the running one, the machine halts with ORDER; else
-- the critical section is left.
abbrev pub unlocked_by : Bool → Option ℕ → Bool → Kernel → List ℕ → Done
unlocked_by at_switch (Some n) above k choices = stops (machine.Halt (Sv n) at_switch) k choices
unlocked_by at_switch None true k choices = stops (machine.Halt Order at_switch) k choices
unlocked_by at_switch None false k choices = goes (record k { lock_cnt = 0 }) choices

abbrev pub unlocked_at : Bool → Kernel → List ℕ → Done
unlocked_at at_switch k choices =
    unlocked_by at_switch (checked k Unlock) (ready_above k.threads (running_thread k).priority) k choices

abbrev pub unlocked : Kernel → List ℕ → Done
unlocked k choices = unlocked_at false k choices

-- the thread of this number gets the processor
abbrev pub started : Kernel → ℕ → Kernel
started k place = record k {
  threads = slice_set k.threads place (record (thread_at k.threads place) { status = Running });
  running = place;
}

-- A thread that left in an S-class call goes on locked. Any other makes the unlock check and leaves the critical
-- section.
abbrev pub goes_on : Left → Kernel → List ℕ → Done
goes_on InSCall k choices = goes k choices
goes_on _ k choices = unlocked_at true k choices

-- To one of so many ready threads that no ready one is above, by a choice. Where there is none, the machine stops.
abbrev pub switched_to : ℕ → Kernel → List ℕ → Done
switched_to zero k choices = stops machine.Stopped k choices
switched_to (suc n) k choices =
    let place = nth_place (is_best k.threads) k.threads (first choices % suc n) in
    goes_on (thread_at k.threads place).left (started k place) (later choices)

-- Switch: lock_cnt becomes 1 before the machine chooses.
unfoldable pub switched : Kernel → List ℕ → Done
switched k choices = switched_to (count (is_best k.threads) k.threads) (record k { lock_cnt = 1 }) choices

-- the running thread leaves the processor
abbrev pub left_as : ThreadStatus → Left → Kernel → Kernel
left_as status left k = record k {
  threads = slice_set k.threads k.running (record (running_thread k) { status = status; left = left });
}

-- Blocking makes the running thread waiting, and the machine switches.
abbrev pub blocked : Left → Kernel → List ℕ → Done
blocked left k choices = switched (left_as Waiting left k) choices

-- Reschedule: where a ready thread is above the running one, that one becomes ready and the machine switches.
abbrev pub rescheduled : Left → (Kernel → List ℕ → Done) → Kernel → List ℕ → Done
rescheduled left otherwise k choices =
    if ready_above k.threads (running_thread k).priority
    then switched (left_as Ready left k) choices
    else otherwise k choices
