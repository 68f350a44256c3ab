-- What the system states of contexts say: a thread's own, those of a nest of handlers with the top one first, and an
-- outcome of the state table.
use Rattle.std.specs.Prelude.{ℕ, suc, Bool, true, false, not, ◌&&◌, List, [], ◌∷◌}
use Rattle.ck_base.specs.declared.states.State.{State}
use Rattle.ck_base.specs.declared.states.State.TheVariants.{TI, TN, TS, TD, TL, TP, HB, HO, HL, HE, FF, XL, NL, NP, OX}
use Rattle.ck_base.specs.declared.states.State.TheVariants.{ON}
use Rattle.ck_base.specs.declared.states.Outcome.{Outcome}
use Rattle.ck_base.specs.declared.states.Outcome.TheVariants.{Next, Alarm}
use Rattle.ck_sound.specs.declared.kernel.Phase.{Phase}
use Rattle.ck_sound.specs.declared.kernel.Phase.TheVariants as in_phase

-- One context.

abbrev pub is_thread : State → Bool
is_thread TI = true
is_thread TN = true
is_thread TS = true
is_thread TD = true
is_thread TL = true
is_thread TP = true
is_thread XL = true
is_thread NL = true
is_thread NP = true
is_thread _ = false

abbrev pub is_regular : State → Bool
is_regular HB = true
is_regular HO = true
is_regular HL = true
is_regular HE = true
is_regular OX = true
is_regular ON = true
is_regular _ = false

abbrev pub is_fast : State → Bool
is_fast FF = true
is_fast _ = false

abbrev pub is_normal : State → Bool
is_normal TN = true
is_normal _ = false

-- a thread in its critical section
abbrev pub in_section : State → Bool
in_section TL = true
in_section TP = true
in_section XL = true
in_section NL = true
in_section NP = true
in_section _ = false

-- a reschedule is due
abbrev pub is_due : State → Bool
is_due TP = true
is_due XL = true
is_due NP = true
is_due _ = false

-- what lock_cnt is where the topmost context that isn't fast is in this state
abbrev pub locked : State → ℕ
locked TL = 1
locked TP = 1
locked HL = 1
locked XL = 1
locked NL = 1
locked NP = 1
locked OX = 1
locked ON = 1
locked _ = 0

-- a handler in this state counts in isr_cnt
abbrev pub counted : State → ℕ → ℕ
counted HO n = suc n
counted HL n = suc n
counted OX n = suc n
counted ON n = suc n
counted _ n = n

-- the phase where the running thread is in this state
abbrev pub phase_of : State → Phase
phase_of TI = in_phase.Init
phase_of TS = in_phase.Suspended
phase_of TD = in_phase.Disabled
phase_of _ = in_phase.Normal

-- the state in which a handler is entered, fast or not
abbrev pub entry_state : Bool → State
entry_state true = FF
entry_state false = HB

-- A nest of handlers.

abbrev pub is_empty : List State → Bool
is_empty [] = true
is_empty (s ∷ states) = false

-- what a handler below another may be in; the lowest isn't in HE
abbrev pub may_be_below : State → List State → Bool
may_be_below HB states = true
may_be_below HO states = true
may_be_below HE states = not (is_empty states)
may_be_below _ states = false

abbrev pub settled : List State → Bool
settled [] = true
settled (s ∷ states) = may_be_below s states && settled states

-- no regular handler is above a fast one, and those below the topmost regular one have settled
abbrev pub is_nest : List State → Bool
is_nest [] = true
is_nest (FF ∷ states) = is_nest states
is_nest (s ∷ states) = is_regular s && settled states

-- what isr_cnt is
abbrev pub opens : List State → ℕ
opens [] = 0
opens (s ∷ states) = counted s (opens states)

-- the topmost context that isn't fast, the thread being in this state
abbrev pub topmost : List State → State → State
topmost [] state = state
topmost (FF ∷ states) state = topmost states state
topmost (s ∷ states) state = s

abbrev pub some_regular : List State → Bool
some_regular [] = false
some_regular (FF ∷ states) = some_regular states
some_regular (s ∷ states) = true

-- the lowest regular handler is in HE, and it is the only one
abbrev pub is_leaving : List State → Bool
is_leaving [] = false
is_leaving (FF ∷ states) = is_leaving states
is_leaving (HE ∷ states) = is_empty states
is_leaving (s ∷ states) = false

-- An outcome of the state table.

abbrev pub IsAllowed : Outcome → Type 0
IsAllowed (Alarm kind) = ⊥
IsAllowed _ = Unit {0}

abbrev pub IsNext : Outcome → Type 0
IsNext (Next next) = Unit {0}
IsNext _ = ⊥

-- the state after it; after the end, the one before
abbrev pub after_outcome : Outcome → State → State
after_outcome (Next next) state = next
after_outcome _ state = state
