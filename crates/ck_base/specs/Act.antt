-- The state table: what a call of an op does in a system state, or which alarm it is there.
-- docs/STATES.md, "The state table", has the same rows in the same order. It looks at one context alone.
use Rattle.std.specs.Prelude.{Bool, true, false, ℕ, List, [], ◌∷◌, Option, Some, None, ◌==◌, if◌then◌else◌}
use Rattle.ck_base.specs.declared.ops.Op.{Op}
use Rattle.ck_base.specs.declared.ops.Op.TheVariants.{Init, Halt, Disable, Suspend, Enable, Lock, Unlock, LockIsr}
use Rattle.ck_base.specs.declared.ops.Op.TheVariants.{UnlockIsr, Prologue, Epilogue, IQuiet, IWakes, SPlain, SWakes}
use Rattle.ck_base.specs.declared.ops.Op.TheVariants.{SSettles, Normal, ExitNormal, ExitS, Free, Neutral, HandlerReturn}
use Rattle.ck_base.specs.declared.ops.Op.TheVariants.{GetStatus, RestoreStatus, PairEnter, PairLeft}
use Rattle.ck_base.specs.declared.states.State.{State}
use Rattle.ck_base.specs.declared.states.State.TheVariants.{TI, TN, TS, TD, TL, TP, HB, HO, HL, HE, FF, XL, NL, NP, OX}
use Rattle.ck_base.specs.declared.states.State.TheVariants.{ON}
use Rattle.ck_base.specs.declared.states.Kind.{Kind}
use Rattle.ck_base.specs.declared.states.Kind.TheVariants.{Sv, Order, P}
use Rattle.ck_base.specs.declared.states.Outcome.{Outcome}
use Rattle.ck_base.specs.declared.states.Outcome.TheVariants.{Next, Alarm, End}

-- the states' codes, by which they are compared
abbrev pub state_code : State → ℕ
state_code TI = 0
state_code TN = 1
state_code TS = 2
state_code TD = 3
state_code TL = 4
state_code TP = 5
state_code HB = 6
state_code HO = 7
state_code HL = 8
state_code HE = 9
state_code FF = 10
state_code XL = 11
state_code NL = 12
state_code NP = 13
state_code OX = 14
state_code ON = 15

-- what a call does where it is allowed, or which alarm it is
pub data Effect : Type 0 where
  To : State → Effect
  Unchanged : Effect
  Ends : Effect
  Raises : Kind → Effect

-- the alarms SV#n and P#n
abbrev pub sv : ℕ → Effect
sv n = Raises (Sv n)

abbrev pub p : ℕ → Effect
p n = Raises (P n)

-- A row of the table. `states ⇒ effect ∥ rest` has the effect in these states, and elsewhere is the rest of the row. So
-- the first entry that names the state counts.
infixr 6 ◌⇒◌∥◌
pub data Row : Type 0 where
  ◌⇒◌∥◌ : List State → Effect → Row → Row
  Otherwise : Effect → Row

-- all threads
abbrev pub threads : List State
threads = TI ∷ TN ∷ TS ∷ TD ∷ TL ∷ TP ∷ XL ∷ NL ∷ NP ∷ []

-- threads in a critical section
abbrev pub locked_threads : List State
locked_threads = TL ∷ TP ∷ XL ∷ NL ∷ NP ∷ []

-- contexts in a critical section
abbrev pub locked : List State
locked = TL ∷ TP ∷ XL ∷ NL ∷ NP ∷ HL ∷ OX ∷ ON ∷ []

-- contexts in a critical section, and open handlers
abbrev pub locked_or_open : List State
locked_or_open = TL ∷ TP ∷ XL ∷ NL ∷ NP ∷ HO ∷ HL ∷ OX ∷ ON ∷ []

-- contexts in an open status pair
abbrev pub paired : List State
paired = XL ∷ NL ∷ NP ∷ OX ∷ ON ∷ []

-- the rows outside a fast handler
abbrev pub row : Op → Row
row Init = TI ∷ [] ⇒ To TN ∥ threads ⇒ p 4 ∥ Otherwise (p 2)
row Disable = TN ∷ TS ∷ TD ∷ [] ⇒ To TD ∥ locked_or_open ⇒ sv 1 ∥ TI ∷ [] ⇒ p 4 ∥ Otherwise (p 2)
row Suspend = TN ∷ TS ∷ TD ∷ [] ⇒ To TS ∥ locked_or_open ⇒ sv 2 ∥ TI ∷ [] ⇒ p 4 ∥ Otherwise (p 2)
row Enable = TN ∷ TS ∷ TD ∷ [] ⇒ To TN ∥ locked_or_open ⇒ sv 3 ∥ TI ∷ [] ⇒ p 4 ∥ Otherwise (p 2)
row Lock = TN ∷ [] ⇒ To TL ∥ locked_or_open ⇒ sv 4 ∥ TI ∷ TS ∷ TD ∷ [] ⇒ p 4 ∥ Otherwise (p 2)
row Unlock = TL ∷ [] ⇒ To TN ∥ TP ∷ NP ∷ [] ⇒ Raises Order ∥ XL ∷ NL ∷ [] ⇒ p 8 ∥ Otherwise (sv 5)
row LockIsr = HO ∷ [] ⇒ To HL ∥ Otherwise (sv 6)
row UnlockIsr = HL ∷ [] ⇒ To HO ∥ OX ∷ ON ∷ [] ⇒ p 8 ∥ Otherwise (sv 7)
row Prologue = HB ∷ [] ⇒ To HO ∥ locked ⇒ sv 8 ∥ TI ∷ TN ∷ TS ∷ TD ∷ HO ∷ [] ⇒ p 1 ∥ Otherwise (p 2)
row Epilogue = HO ∷ [] ⇒ To HE ∥ Otherwise (sv 9)
row IQuiet = locked ⇒ Unchanged ∥ Otherwise (sv 10)
row IWakes = TL ∷ [] ⇒ To TP ∥ NL ∷ [] ⇒ To NP ∥ locked ⇒ Unchanged ∥ Otherwise (sv 10)
row SPlain = locked_threads ⇒ Unchanged ∥ Otherwise (sv 11)
row SWakes = TL ∷ [] ⇒ To TP ∥ NL ∷ [] ⇒ To NP ∥ locked_threads ⇒ Unchanged ∥ Otherwise (sv 11)
row SSettles = TP ∷ [] ⇒ To TL ∥ NP ∷ [] ⇒ To NL ∥ locked_threads ⇒ Unchanged ∥ Otherwise (sv 11)
row Normal = TN ∷ [] ⇒ To TN ∥ locked_or_open ⇒ sv 4 ∥ TI ∷ TS ∷ TD ∷ [] ⇒ p 4 ∥ Otherwise (p 2)
row ExitNormal = TN ∷ [] ⇒ Ends ∥ locked_or_open ⇒ sv 4 ∥ TI ∷ TS ∷ TD ∷ [] ⇒ p 4 ∥ Otherwise (p 2)
row ExitS = locked_threads ⇒ Ends ∥ Otherwise (sv 11)
row Free = Otherwise Unchanged
row Neutral = Otherwise Unchanged
row Halt = Otherwise Ends
row HandlerReturn = HE ∷ [] ⇒ Ends ∥ Otherwise (p 3)
row GetStatus =
    TN ∷ [] ⇒ To XL ∥ TL ∷ [] ⇒ To NL ∥ TP ∷ [] ⇒ To NP ∥ HO ∷ [] ⇒ To OX ∥ HL ∷ [] ⇒ To ON ∥
    paired ⇒ p 6 ∥ HB ∷ HE ∷ [] ⇒ sv 6 ∥ Otherwise (p 4)
row RestoreStatus =
    XL ∷ [] ⇒ To TN ∥ NL ∷ [] ⇒ To TL ∥ NP ∷ [] ⇒ To TP ∥ OX ∷ [] ⇒ To HO ∥ ON ∷ [] ⇒ To HL ∥ Otherwise (p 7)
row PairEnter = paired ⇒ p 6 ∥ Otherwise Unchanged
row PairLeft = paired ⇒ p 8 ∥ Otherwise Unchanged

-- the rows in a fast handler
abbrev pub fast_row : Op → Row
fast_row Halt = Otherwise Ends
fast_row HandlerReturn = Otherwise Ends
fast_row Neutral = Otherwise Unchanged
fast_row PairEnter = Otherwise Unchanged
fast_row PairLeft = Otherwise Unchanged
fast_row _ = Otherwise (p 5)

abbrev pub names_state : List State → State → Bool
names_state [] state = false
names_state (s ∷ states) state = if state_code s == state_code state then true else names_state states state

abbrev pub outcome_of : Effect → State → Outcome
outcome_of (To next) state = Next next
outcome_of Unchanged state = Next state
outcome_of Ends state = End
outcome_of (Raises kind) state = Alarm kind

abbrev pub first_that_fits : Row → State → Outcome
first_that_fits (states ⇒ effect ∥ rest) state =
    if names_state states state then outcome_of effect state else first_that_fits rest state
first_that_fits (Otherwise effect) state = outcome_of effect state

-- what a call of an op does in a state
abbrev pub act : Op → State → Outcome
act op FF = first_that_fits (fast_row op) FF
act op state = first_that_fits (row op) state

-- the state in which a context goes on, where it goes on
abbrev pub next_state : Outcome → Option State
next_state (Next next) = Some next
next_state _ = None
