-- What each act does to the kernel's part of the world, once its check is passed: `effect`, at the end, has a line for
-- each op.
use Rattle.std.specs.Prelude.{ℕ, zero, suc, ◌+◌, ◌-◌, min, Bool, true, false, not, ◌&&◌, ◌||◌, if◌then◌else◌, List, []}
use Rattle.std.specs.Prelude.{◌∷◌, ◌++◌, Option, Some, None, slice_set}
use Rattle.ck_base.specs.declared.ops.Op.{Op}
use Rattle.ck_base.specs.declared.ops.Op.TheVariants.{Init, Halt, Disable, Suspend, Enable, Lock, Unlock, LockIsr}
use Rattle.ck_base.specs.declared.ops.Op.TheVariants.{UnlockIsr, Prologue, Epilogue, IQuiet, IWakes, SPlain, SWakes}
use Rattle.ck_base.specs.declared.ops.Op.TheVariants.{SSettles, Normal, ExitNormal, ExitS, Free, Neutral, HandlerReturn}
use Rattle.ck_base.specs.declared.ops.Op.TheVariants.{GetStatus, RestoreStatus, PairEnter, PairLeft}
use Rattle.ck_base.specs.declared.states.Kind.TheVariants.{Sv}
use Rattle.ck_sound.specs.declared.threads.Thread.{Thread}
use Rattle.ck_sound.specs.declared.threads.ThreadStatus.{ThreadStatus}
use Rattle.ck_sound.specs.declared.threads.ThreadStatus.TheVariants.{Ready, Waiting, Ended}
use Rattle.ck_sound.specs.declared.threads.Left.TheVariants.{New, Preempted, InNormalCall, InSCall}
use Rattle.ck_sound.specs.declared.kernel.Phase.{Phase}
use Rattle.ck_sound.specs.declared.kernel.Phase.TheVariants as in_phase
use Rattle.ck_sound.specs.declared.kernel.Source.{Source}
use Rattle.ck_sound.specs.declared.stops.Stop.TheVariants as machine
use Rattle.ck_sound.specs.Choices.{first, later, odd}
use Rattle.ck_sound.specs.Threads.{some_equal}
use Rattle.ck_sound.specs.Wake.{Woken, wake}
use Rattle.ck_sound.specs.Kernel.{Kernel, Request, Nothing, Creates, SetsPriority, Restores, Done, running_thread}
use Rattle.ck_sound.specs.Kernel.{checked, goes, stops}
use Rattle.ck_sound.specs.Switch.{unlocked, switched, left_as, blocked, rescheduled}

-- What an act asks for is made.

-- A create call adds its thread, new, with the given priority.
abbrev pub added : {C : Type 0} → ThreadStatus → Request C → Kernel → Kernel
added status (Creates stack priority suspended) k = record k {
  threads = k.threads ++ record { priority = priority; status = status; left = New } ∷ [];
}
added status _ k = k

-- In the normal class, the thread is waiting for the suspended forms and else ready; chThdSetPriority sets the running
-- thread's priority.
abbrev pub requested : {C : Type 0} → Request C → Kernel → Kernel
requested Nothing k = k
requested (Creates stack priority true) k = added Waiting (Creates stack priority true) k
requested (Creates stack priority false) k = added Ready (Creates stack priority false) k
requested (Restores locked) k = k
requested (SetsPriority priority) k = record k {
  threads = slice_set k.threads k.running (record (running_thread k) { priority = priority });
}

-- chSysInit.

-- the idle thread, of priority 1
abbrev pub idle : Thread
idle = record { priority = 1; status = Ready; left = New }

-- Init sets the phase Normal and, the first time, adds the idle thread. No call leads back to the phase Init.
abbrev pub initialised_in : Phase → Kernel → Kernel
initialised_in in_phase.Init k = record k { phase = in_phase.Normal; threads = k.threads ++ idle ∷ [] }
initialised_in _ k = record k { phase = in_phase.Normal }

-- I-class and S-class.

abbrev pub wakes : Kernel → List ℕ → Woken
wakes k choices = wake (running_thread k).priority k.threads choices

abbrev pub woken_kernel : Kernel → Woken → Kernel
woken_kernel k w = record k { threads = w.threads }

-- IWakes and SWakes: wake.
abbrev pub i_wakes : Kernel → List ℕ → Done
i_wakes k choices = let w = wakes k choices in goes (woken_kernel k w) w.choices

-- SPlain: wake; where a woken thread is above, reschedule; else an odd choice blocks.
abbrev pub s_plain_by : Bool → Kernel → List ℕ → Done
s_plain_by true k choices = rescheduled InSCall goes k choices
s_plain_by false k choices =
    if odd (first choices) then blocked InSCall k (later choices) else goes k (later choices)

abbrev pub s_plain : Kernel → List ℕ → Done
s_plain k choices = let w = wakes k choices in s_plain_by w.above (woken_kernel k w) w.choices

-- SSettles: an odd choice blocks, any other reschedules.
abbrev pub s_settles : Kernel → List ℕ → Done
s_settles k choices =
    if odd (first choices) then blocked InSCall k (later choices) else rescheduled InSCall goes k (later choices)

-- The normal class: the critical section is entered, what the act asks for is made, the act wakes; an odd choice
-- blocks, any other reschedules; without a switch, the caller makes the unlock check.
abbrev pub n_settles : Kernel → List ℕ → Done
n_settles k choices =
    if odd (first choices)
    then blocked InNormalCall k (later choices)
    else rescheduled InNormalCall unlocked k (later choices)

abbrev pub n_wakes : Kernel → List ℕ → Done
n_wakes k choices = let w = wakes k choices in n_settles (woken_kernel k w) w.choices

abbrev pub normal : {C : Type 0} → Request C → Kernel → List ℕ → Done
normal request k choices = n_wakes (requested request (record k { lock_cnt = 1 })) choices

-- Handlers.

abbrev pub all_fast : List Source → Bool
all_fast [] = true
all_fast (h ∷ handlers) = h.fast && all_fast handlers

-- the top handler is regular, and no other is
abbrev pub only_regular : List Source → Bool
only_regular [] = false
only_regular (h ∷ handlers) = not h.fast && all_fast handlers

abbrev pub without_top : {A : Type 0} → List A → List A
without_top [] = []
without_top (h ∷ handlers) = handlers

-- Where no ready thread is above, one has the running one's priority and a choice is odd, the running one becomes ready
-- and the machine switches.
abbrev pub takes_turns : Kernel → List ℕ → Done
takes_turns k choices =
    if some_equal k.threads (running_thread k).priority && odd (first choices)
    then switched (left_as Ready Preempted k) (later choices)
    else goes k choices

-- HandlerReturn pops the handler. Where `leaving` isn't set or this isn't the outermost regular handler, it does no
-- more. Else `leaving` is cleared, and the machine reschedules or lets equals take turns.
abbrev pub returned_by : Bool → Kernel → List ℕ → Done
returned_by true k choices = rescheduled Preempted takes_turns (record k { leaving = false }) choices
returned_by false k choices = goes k choices

abbrev pub returned : Kernel → List ℕ → Done
returned k choices =
    returned_by (k.leaving && only_regular k.handlers) (record k { handlers = without_top k.handlers }) choices

-- The status pair.

-- a check, and what comes where it is passed
abbrev pub checks_by : Option ℕ → (Kernel → List ℕ → Done) → Kernel → List ℕ → Done
checks_by (Some n) rest k choices = stops (machine.Halt (Sv n) false) k choices
checks_by None rest k choices = rest k choices

abbrev pub enters_section : Kernel → List ℕ → Done
enters_section k choices = goes (record k { lock_cnt = 1 }) choices

abbrev pub leaves_section : Kernel → List ℕ → Done
leaves_section k choices = goes (record k { lock_cnt = 0 }) choices

abbrev pub reschedules : Kernel → List ℕ → Done
reschedules k choices = rescheduled InNormalCall unlocked k choices

-- GetStatus with lock_cnt above 0 does nothing. With lock_cnt 0 it makes the check of SV#4 in a thread and of SV#6 in a
-- handler, and enters the critical section.
abbrev pub gets_status : ℕ → List Source → Kernel → List ℕ → Done
gets_status zero [] k choices = checks_by (checked k Lock) enters_section k choices
gets_status zero (h ∷ handlers) k choices = checks_by (checked k LockIsr) enters_section k choices
gets_status (suc n) handlers k choices = goes k choices

-- In a thread the check of SV#11 is made and the machine reschedules, as after a call of the normal class. In a handler
-- the check of SV#7 is made and the critical section is left.
abbrev pub unlocks : List Source → Kernel → List ℕ → Done
unlocks [] k choices = checks_by (checked k SSettles) reschedules k choices
unlocks (h ∷ handlers) k choices = checks_by (checked k UnlockIsr) leaves_section k choices

-- RestoreStatus with "locked" does nothing, with "unlocked" it unlocks.
abbrev pub restores : {C : Type 0} → Request C → Kernel → List ℕ → Done
restores (Restores true) k choices = goes k choices
restores (Restores false) k choices = unlocks k.handlers k choices
restores _ k choices = goes k choices

-- All acts. isr_cnt stays at 4294967295 where it is there.
abbrev pub effect : {C : Type 0} → Op → Request C → Kernel → List ℕ → Done
effect Init request k choices = goes (initialised_in k.phase k) choices
effect Halt request k choices = stops machine.Stopped k choices
effect Disable request k choices = goes (record k { phase = in_phase.Disabled }) choices
effect Suspend request k choices = goes (record k { phase = in_phase.Suspended }) choices
effect Enable request k choices = goes (record k { phase = in_phase.Normal }) choices
effect Lock request k choices = goes (record k { lock_cnt = 1 }) choices
effect Unlock request k choices = unlocked k choices
effect LockIsr request k choices = goes (record k { lock_cnt = 1 }) choices
effect UnlockIsr request k choices = goes (record k { lock_cnt = 0 }) choices
effect Prologue request k choices = goes (record k { isr_cnt = min (k.isr_cnt + 1) 4294967295 }) choices
effect Epilogue request k choices =
    goes (record k { isr_cnt = k.isr_cnt - 1; leaving = only_regular k.handlers || k.leaving }) choices
effect IQuiet request k choices = goes (added Waiting request k) choices
effect IWakes request k choices = i_wakes (added Ready request k) choices
effect SPlain request k choices = s_plain k choices
effect SWakes request k choices = i_wakes k choices
effect SSettles request k choices = s_settles k choices
effect Normal request k choices = normal request k choices
effect ExitNormal request k choices = switched (left_as Ended InNormalCall k) choices
effect ExitS request k choices = switched (left_as Ended InSCall k) choices
effect Free request k choices = goes k choices
effect Neutral request k choices = goes k choices
effect HandlerReturn request k choices = returned k choices
effect GetStatus request k choices = gets_status k.lock_cnt k.handlers k choices
effect RestoreStatus request k choices = restores request k choices
effect PairEnter request k choices = goes k choices
effect PairLeft request k choices = goes k choices
