-- When rules over numbers model a project: which functions reach which of its holders (docs/FLOW.md).
use Rattle.std.specs.Prelude.{◌≡◌, ◌+◌, ℕ, List, length, Contains}
use Rattle.ck_prog.specs.Calls.{CallSite}
use Rattle.ck_prog.specs.Slots.{Slot, slot_number, slots}
use Rattle.ck_reaching.specs.Rules.{System}
use Rattle.ck_slots.specs.Givens.{TypedProject, Given, calls_through, givens}
use Rattle.ck_slots.specs.Holders.{ThreadSink, TimerSink, of_slot}
use Rattle.ck_slots.specs.Origins.{Held}
use Rattle.ck_origins.specs.Covering.{Cover}
use Rattle.ck_origins.specs.Following.{Follow}
use Rattle.ck_origins.specs.Meanings.{Meanings, origin_at}

-- rules that follow from a project, so far for what is given here, for these calls and for the cells below a number
pub record Stand (p : TypedProject) (given : List Given) (sites : List CallSite) (fed : ℕ) (m : Meanings) (s : System)
    : Type 0 where
  pub follow : Follow p m s
  pub cover : Cover p given sites fed m s

-- a slot's number is the number of its cell; after the slots comes what the kernel starts
abbrev pub slot_cell : TypedProject → Slot → ℕ
slot_cell p slot = slot_number (slots p.all) slot

abbrev pub thread_cell : TypedProject → ℕ
thread_cell p = length (slots p.all)

abbrev pub timer_cell : TypedProject → ℕ
timer_cell p = length (slots p.all) + 1

pub record AreNumbered (p : TypedProject) (m : Meanings) : Type 0 where
  pub of_slots : (slot : Slot) → Contains (slots p.all) slot → origin_at m (slot_cell p slot) ≡ Held (of_slot slot)
  pub threads : origin_at m (thread_cell p) ≡ Held ThreadSink
  pub timers : origin_at m (timer_cell p) ≡ Held TimerSink

pub record Models (p : TypedProject) (m : Meanings) (s : System) : Type 0 where
  pub stand : Stand p (givens p) (calls_through p) s.cells m s
  pub numbers : AreNumbered p m
