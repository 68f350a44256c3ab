-- The walk of a file: it starts in the state TI and takes what the state table says of each call in order.
-- docs/STATES.md, "The state table".
use Rattle.std.specs.Prelude.{◌≡◌, List, [], ◌∷◌, ◌++◌, Option, Some, option_and_then}
use Rattle.ck_base.specs.declared.states.State.{State}
use Rattle.ck_base.specs.declared.states.State.TheVariants.{TI}
use Rattle.ck_base.specs.declared.states.Kind.{Kind}
use Rattle.ck_base.specs.declared.states.Outcome.TheVariants.{Alarm}
use Rattle.ck_base.specs.Act.{act, next_state}
use Rattle.ck_cli.specs.declared.form.Call.{Call}
use Rattle.ck_cli.specs.Calls.{op_of}

-- the state after calls that a thread makes one after the other, where each of them is allowed
abbrev pub state_after : State → List Call → Option State
state_after state [] = Some state
state_after state (c ∷ calls) = option_and_then (λ next. state_after next calls) (next_state (act (op_of c.call) state))

-- among the calls, this one is an alarm of this kind, after those before it
pub record Alarms (calls before : List Call) (call : Call) (kind : Kind) : Type 0 where
  pub after : List Call
  pub split : calls ≡ before ++ call ∷ after
  pub state : State
  pub reached : state_after TI before ≡ Some state
  pub alarm : act (op_of call.call) state ≡ Alarm kind

-- no call alarms
abbrev pub Passes : List Call → Type 0
Passes calls = (before : List Call) (call : Call) (kind : Kind) → Alarms calls before call kind → ⊥
