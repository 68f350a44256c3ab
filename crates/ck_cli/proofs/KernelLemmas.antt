-- Where the walk passes, the kernel's counters halt nowhere: the state stands for them all the way.
use Rattle.std.proofs.Common.{◌≡◌, List, [], ◌∷◌, ◌++◌, map, None, refl, sym, subst}
use Rattle.ck_base.specs.declared.states.State.{State}
use Rattle.ck_base.specs.declared.states.State.TheVariants.{TI, TN, TS, TD, TL}
use Rattle.ck_base.specs.declared.states.Outcome.{Outcome}
use Rattle.ck_base.specs.declared.states.Outcome.TheVariants.{Next, Alarm, End}
use Rattle.ck_base.specs.Act.{act}
use Rattle.ck_base.specs.Counters.{counters_of, halt_of, moved}
use Rattle.ck_cli.specs.declared.calls.KernelCall.{KernelCall}
use Rattle.ck_cli.specs.declared.calls.KernelCall.TheVariants.{Init, Disable, Suspend, Enable, Lock, Unlock}
use Rattle.ck_cli.specs.declared.form.Call.{Call}
use Rattle.ck_cli.specs.Calls.{op_of}
use Rattle.ck_cli.specs.Kernel.{HaltsNowhere}
use Rattle.ck_cli.specs.Walking.{walk, walk_on}

-- an allowed call breaks no condition of the kernel, and leaves the counters for which the next state stands
abbrev pub Agrees : KernelCall → State → Outcome → Type 0
Agrees call state (Next next) =
    (halt_of (op_of call) (counters_of state) ≡ None) × (moved (op_of call) (counters_of state) ≡ counters_of next)
Agrees call state (Alarm kind) = Unit {0}
Agrees call state End = ⊥

allowed_agrees : (call : KernelCall) (state : State) → Agrees call state (act (op_of call) state)
allowed_agrees Init TI = (refl, refl)
allowed_agrees Disable TN = (refl, refl)
allowed_agrees Disable TS = (refl, refl)
allowed_agrees Disable TD = (refl, refl)
allowed_agrees Suspend TN = (refl, refl)
allowed_agrees Suspend TS = (refl, refl)
allowed_agrees Suspend TD = (refl, refl)
allowed_agrees Enable TN = (refl, refl)
allowed_agrees Enable TS = (refl, refl)
allowed_agrees Enable TD = (refl, refl)
allowed_agrees Lock TN = (refl, refl)
allowed_agrees Unlock TL = (refl, refl)
allowed_agrees _ _ = tt

passes_on : (state : State) (earlier : List Call) (c : Call) (calls : List Call) (outcome : Outcome)
    → Agrees c.call state outcome → walk_on outcome (λ next. walk next (earlier ++ c ∷ []) calls) earlier c ≡ None
    → ((next : State) → walk next (earlier ++ c ∷ []) calls ≡ None → HaltsNowhere (counters_of next)
    (map (λ d. op_of d.call) calls))
    → HaltsNowhere (counters_of state) (map (λ d. op_of d.call) (c ∷ calls))
passes_on state earlier c calls (Next next) agrees h rest =
    (agrees.0, subst (λ n. HaltsNowhere n (map (λ d. op_of d.call) calls)) (sym agrees.1) (rest next h))
passes_on state earlier c calls (Alarm kind) agrees h rest = absurd (cc)
passes_on state earlier c calls End agrees h rest = absurd agrees

pub halts_nowhere : (state : State) (earlier calls : List Call)
    → walk state earlier calls ≡ None → HaltsNowhere (counters_of state) (map (λ d. op_of d.call) calls)
halts_nowhere state earlier [] h = tt
halts_nowhere state earlier (c ∷ calls) h =
    passes_on state earlier c calls (act (op_of c.call) state) (allowed_agrees c.call state) h
    (λ next. halts_nowhere next (earlier ++ c ∷ []) calls)
