-- Laws of rules that model a project: both say of each function whether it gets there.
use Rattle.std.specs.Prelude.{◌↔◌, ℕ, List, Contains}
use Rattle.ck_base.specs.declared.spans.FnId.{FnId}
use Rattle.ck_prog.specs.Slots.{Slot, slots}
use Rattle.ck_prog.specs.TypedTrees.{Typed}
use Rattle.ck_reaching.specs.Reached.{AreTargets}
use Rattle.ck_reaching.specs.Reaching as rules
use Rattle.ck_reaching.specs.Rules.{System}
use Rattle.ck_reaching.specs.declared.rules.Call.{Call}
use Rattle.ck_slots.specs.Givens.{TypedProject}
use Rattle.ck_slots.specs.Holders.{ThreadSink, TimerSink, of_slot}
use Rattle.ck_slots.specs.Reaching.{ComesFrom, IsTargetOf, Reaches}
use Rattle.ck_origins.specs.Meanings.{Meanings, origin_at}
use Rattle.ck_origins.specs.Modelling.{Models, slot_cell, thread_cell, timer_cell}
use Rattle.ck_origins.specs.SiteRules.{Calls}

-- a function reaches a cell exactly where it comes from the cell's origin
abbrev pub CellsAreExact : Type 0
CellsAreExact =
    (p : TypedProject) (m : Meanings) (s : System) → Models p m s → (cell f : ℕ) →
    rules.Reaches s cell f ↔ ComesFrom p f (origin_at m cell)

-- the cell of a slot's number exactly where it reaches the slot
abbrev pub SlotsAreExact : Type 0
SlotsAreExact =
    (p : TypedProject) (m : Meanings) (s : System) → Models p m s → (slot : Slot) → Contains (slots p.all) slot →
    (f : ℕ) → rules.Reaches s (slot_cell p slot) f ↔ Reaches p f (of_slot slot)

-- and the two cells after the slots exactly where the kernel starts it
abbrev pub ThreadsAreExact : Type 0
ThreadsAreExact =
    (p : TypedProject) (m : Meanings) (s : System) → Models p m s → (f : ℕ) →
    rules.Reaches s (thread_cell p) f ↔ Reaches p f ThreadSink

abbrev pub TimersAreExact : Type 0
TimersAreExact =
    (p : TypedProject) (m : Meanings) (s : System) → Models p m s → (f : ℕ) →
    rules.Reaches s (timer_cell p) f ↔ Reaches p f TimerSink

-- the targets of a call are those of the expression that it calls
abbrev pub TargetsAreExact : Type 0
TargetsAreExact =
    (p : TypedProject) (m : Meanings) (s : System) → Models p m s → (x : Typed) (call : Call) → Calls p m x call →
    (f : ℕ) → rules.IsTarget s call f ↔ IsTargetOf p x f

-- and so are those that are listed
abbrev pub ListedTargetsAreExact : Type 0
ListedTargetsAreExact =
    (p : TypedProject) (m : Meanings) (s : System) → Models p m s → (x : Typed) (call : Call) → Calls p m x call →
    (targets : List FnId) → AreTargets s call targets → (f : FnId) → Contains targets f ↔ IsTargetOf p x f.0
