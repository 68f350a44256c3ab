-- The walk from its prefix finds the first alarm, and passes where there is none.
use Rattle.std.proofs.Common.{◌≡◌, List, [], ◌∷◌, ◌++◌, Option, Some, None, refl, sym, ap, ◌∙◌, append_assoc}
use Rattle.std.specs.Prelude.{option_and_then}
use Rattle.std.proofs.lemmas.List.{append-nil}
use Rattle.ck_base.specs.declared.states.State.{State}
use Rattle.ck_base.specs.declared.states.State.TheVariants.{TI}
use Rattle.ck_base.specs.declared.states.Kind.{Kind}
use Rattle.ck_base.specs.declared.states.Outcome.{Outcome}
use Rattle.ck_base.specs.declared.states.Outcome.TheVariants.{Next, Alarm, End}
use Rattle.ck_base.specs.Act.{act}
use Rattle.ck_cli.specs.declared.form.Call.{Call}
use Rattle.ck_cli.specs.Calls.{op_of}
use Rattle.ck_base.specs.Act.{next_state}
use Rattle.ck_cli.specs.Walk.{state_after, Alarms, Passes}
use Rattle.ck_cli.specs.Walking.{walk, walk_on}

abbrev pub found : List Call → Call → Kind → Option (List Call × Call × Kind)
found before call kind = Some (before, call, kind)

-- an alarm among calls that are taken from a state, after those before them
record AlarmsFrom (start : State) (earlier calls before : List Call) (call : Call) (kind : Kind) : Type 0 where
  passed : List Call
  after : List Call
  before_is : before ≡ earlier ++ passed
  split : calls ≡ passed ++ call ∷ after
  state : State
  reached : state_after start passed ≡ Some state
  alarm : act (op_of call.call) state ≡ Alarm kind

found-parts : (a b : List Call) (c d : Call) (j k : Kind) → found a c j ≡ found b d k → (a ≡ b) × (c ≡ d) × (j ≡ k)
found-parts a b c d j k e =
    let x : List Call × Call × Kind = (a, c, j) in
    let y : List Call × Call × Kind = (b, d, k) in
    let same : x ≡ y = cc in
    (ap (λ z. z.0) same, ap (λ z. z.1) same, ap (λ z. z.2) same)

walk_on-found : (start : State) (earlier calls before : List Call) (c call : Call) (kind : Kind) (outcome : Outcome)
    → act (op_of c.call) start ≡ outcome
    → ((next : State) → walk next (earlier ++ c ∷ []) calls ≡ found before call kind → AlarmsFrom next
    (earlier ++ c ∷ []) calls before call kind)
    → walk_on outcome (λ next. walk next (earlier ++ c ∷ []) calls) earlier c ≡ found before call kind
    → AlarmsFrom start earlier (c ∷ calls) before call kind
walk_on-found start earlier calls before c call kind (Next next) acts rest h =
    let later = rest next h in
    record {
      passed = c ∷ later.passed;
      after = later.after;
      before_is = later.before_is ∙ append_assoc earlier (c ∷ []) later.passed;
      split = ap (λ r. c ∷ r) later.split;
      state = later.state;
      reached = ap (λ o. option_and_then (λ next. state_after next later.passed) (next_state o)) acts ∙ later.reached;
      alarm = later.alarm;
    }
walk_on-found start earlier calls before c call kind (Alarm k) acts rest h =
    let same = found-parts earlier before c call k kind h in
    record {
      passed = [];
      after = calls;
      before_is = sym same.0 ∙ sym (append-nil earlier);
      split = ap (λ x. x ∷ calls) same.1;
      state = start;
      reached = refl;
      alarm = ap (λ x. act (op_of x.call) start) (sym same.1) ∙ (acts ∙ ap Alarm same.2);
    }
walk_on-found start earlier calls before c call kind End acts rest h = absurd (cc)

walk-found : (start : State) (earlier calls before : List Call) (call : Call) (kind : Kind)
    → walk start earlier calls ≡ found before call kind → AlarmsFrom start earlier calls before call kind
walk-found start earlier [] before call kind h = absurd (cc)
walk-found start earlier (c ∷ calls) before call kind h =
    walk_on-found start earlier calls before c call kind (act (op_of c.call) start) refl
    (λ next. walk-found next (earlier ++ c ∷ []) calls before call kind) h

pub Alarms-from_walk : (calls before : List Call) (call : Call) (kind : Kind)
    → walk TI [] calls ≡ found before call kind → Alarms calls before call kind
Alarms-from_walk calls before call kind h =
    let alarms = walk-found TI [] calls before call kind h in
    record {
      after = alarms.after;
      split = alarms.split ∙ ap (λ b. b ++ call ∷ alarms.after) (sym alarms.before_is);
      state = alarms.state;
      reached = ap (state_after TI) alarms.before_is ∙ alarms.reached;
      alarm = alarms.alarm;
    }

-- no alarm
goes_on-none : (earlier calls passed after : List Call) (c call : Call) (kind : Kind) (state : State)
    (outcome : Outcome)
    → walk_on outcome (λ next. walk next (earlier ++ c ∷ []) calls) earlier c ≡ None
    → option_and_then (λ next. state_after next passed) (next_state outcome) ≡ Some state
    → ((next : State) → walk next (earlier ++ c ∷ []) calls ≡ None → state_after next passed ≡ Some state → ⊥) → ⊥
goes_on-none earlier calls passed after c call kind state (Next next) h reached rest = rest next h reached
goes_on-none earlier calls passed after c call kind state (Alarm k) h reached rest = cc
goes_on-none earlier calls passed after c call kind state End h reached rest = cc

walk-none : (start : State) (earlier calls passed after : List Call) (call : Call) (kind : Kind) (state : State)
    → walk start earlier calls ≡ None → calls ≡ passed ++ call ∷ after → state_after start passed ≡ Some state
    → act (op_of call.call) state ≡ Alarm kind → ⊥
walk-none start earlier [] [] after call kind state h split reached alarm = cc
walk-none start earlier [] (p ∷ passed) after call kind state h split reached alarm = cc
walk-none start earlier (c ∷ calls) [] after call kind state h split reached alarm =
    let same : c ≡ call = cc in
    let here : start ≡ state = cc in
    let acts : act (op_of c.call) start ≡ Alarm kind = ap (λ x. act (op_of x.call) start) same ∙
    (ap (act (op_of call.call)) here ∙ alarm) in
    let stops : walk_on (act (op_of c.call) start) (λ next. walk next (earlier ++ c ∷ []) calls) earlier c ≡ found
    earlier c kind = ap (λ o. walk_on o (λ next. walk next (earlier ++ c ∷ []) calls) earlier c) acts in
    cc
walk-none start earlier (c ∷ calls) (p ∷ passed) after call kind state h split reached alarm =
    let same : c ≡ p = cc in
    let rest : calls ≡ passed ++ call ∷ after = cc in
    goes_on-none earlier calls passed after c call kind state (act (op_of c.call) start) h
    (ap (λ x. option_and_then (λ next. state_after next passed) (next_state (act (op_of x.call) start))) same ∙ reached)
    (λ next on reached_on. walk-none next (earlier ++ c ∷ []) calls passed after call kind state on rest reached_on
    alarm)

pub Passes-from_walk : (calls : List Call) → walk TI [] calls ≡ None → Passes calls
Passes-from_walk calls h before call kind alarms =
    walk-none TI [] calls before alarms.after call kind alarms.state h alarms.split alarms.reached alarms.alarm

-- an alarm is found
goes_on-found : (earlier calls passed : List Call) (c call : Call) (kind : Kind) (state : State) (outcome : Outcome)
    → option_and_then (λ next. state_after next passed) (next_state outcome) ≡ Some state
    → ((next : State) → state_after next passed ≡ Some state → walk next (earlier ++ c ∷ []) calls ≡ found
    ((earlier ++ c ∷ []) ++ passed) call kind)
    → walk_on outcome (λ next. walk next (earlier ++ c ∷ []) calls) earlier c ≡ found
    ((earlier ++ c ∷ []) ++ passed) call kind
goes_on-found earlier calls passed c call kind state (Next next) reached rest = rest next reached
goes_on-found earlier calls passed c call kind state (Alarm k) reached rest = absurd (cc)
goes_on-found earlier calls passed c call kind state End reached rest = absurd (cc)

walk-complete : (start : State) (earlier calls passed after : List Call) (call : Call) (kind : Kind) (state : State)
    → calls ≡ passed ++ call ∷ after → state_after start passed ≡ Some state → act (op_of call.call) state ≡ Alarm kind
    → walk start earlier calls ≡ found (earlier ++ passed) call kind
walk-complete start earlier [] [] after call kind state split reached alarm = absurd (cc)
walk-complete start earlier [] (p ∷ passed) after call kind state split reached alarm = absurd (cc)
walk-complete start earlier (c ∷ calls) [] after call kind state split reached alarm =
    let same : c ≡ call = cc in
    let here : start ≡ state = cc in
    let acts : act (op_of c.call) start ≡ Alarm kind = ap (λ x. act (op_of x.call) start) same ∙
    (ap (act (op_of call.call)) here ∙ alarm) in
    ap (λ o. walk_on o (λ next. walk next (earlier ++ c ∷ []) calls) earlier c) acts ∙
    (ap (λ x. found earlier x kind) same ∙ ap (λ b. found b call kind) (sym (append-nil earlier)))
walk-complete start earlier (c ∷ calls) (p ∷ passed) after call kind state split reached alarm =
    let same : c ≡ p = cc in
    let rest : calls ≡ passed ++ call ∷ after = cc in
    goes_on-found earlier calls passed c call kind state (act (op_of c.call) start)
    (ap (λ x. option_and_then (λ next. state_after next passed) (next_state (act (op_of x.call) start))) same ∙ reached)
    (λ next reached_on. walk-complete next (earlier ++ c ∷ []) calls passed after call kind state rest reached_on
    alarm) ∙
    ap (λ b. found b call kind) (append_assoc earlier (c ∷ []) passed ∙ ap (λ x. earlier ++ x ∷ passed) same)

walk-from_Alarms : (calls before : List Call) (call : Call) (kind : Kind)
    → Alarms calls before call kind → walk TI [] calls ≡ found before call kind
walk-from_Alarms calls before call kind alarms =
    walk-complete TI [] calls before alarms.after call kind alarms.state alarms.split alarms.reached alarms.alarm

-- the first alarm is the one alarm
pub Alarms-one : (calls a b : List Call) (c d : Call) (j k : Kind)
    → Alarms calls a c j → Alarms calls b d k → (a ≡ b) × (c ≡ d) × (j ≡ k)
Alarms-one calls a b c d j k first second =
    found-parts a b c d j k (sym (walk-from_Alarms calls a c j first) ∙ walk-from_Alarms calls b d k second)
