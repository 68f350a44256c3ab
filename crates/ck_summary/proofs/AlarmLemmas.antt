-- The alarms of a table: what a loop has found so far, and what they mean for walks.
use Rattle.std.proofs.Common.{◌≡◌, ℕ, ◌+◌, ◌<◌, ◌≤◌, ◌⊎◌, List, [], ◌∷◌, ◌++◌, Some, refl, sym, ap, ◌∙◌, subst, inl}
use Rattle.std.proofs.Common.{inr, arith}
use Rattle.std.specs.List.{Contains}
use Rattle.std.proofs.lemmas.Bool.{cases_eq, cases_lt}
use Rattle.std.proofs.lemmas.List.Elements.{Contains-append_left, Contains-push, Contains-push_cases}
use Rattle.ck_base.specs.declared.ops.Op.{Op}
use Rattle.ck_base.specs.declared.states.State.{State}
use Rattle.ck_base.specs.declared.states.Kind.{Kind}
use Rattle.ck_base.specs.declared.states.Outcome.{Outcome}
use Rattle.ck_base.specs.declared.states.Outcome.TheVariants.{Next, Alarm, End}
use Rattle.ck_base.specs.Act.{act, state_code}
use Rattle.ck_rows.specs.declared.rows.Rows.{Rows}
use Rattle.ck_rows.specs.Relation.{Relates}
use Rattle.ck_graph.specs.declared.points.ActName.{ActName}
use Rattle.ck_graph.specs.declared.points.PointKind.{PointKind}
use Rattle.ck_graph.specs.declared.points.PointKind.TheVariants.{Plain, Act, Call, Exit}
use Rattle.ck_graph.specs.Flow.{Flow, Point, point_count}
use Rattle.ck_graph.specs.Forbidden.{alarm_in, alarm_of_outcome}
use Rattle.ck_summary.specs.declared.reached.AlarmAt.{AlarmAt}
use Rattle.ck_summary.specs.Solution.{rows_at}
use Rattle.ck_graph.specs.Steps.{kind_at}
use Rattle.ck_summary.specs.Alarms.{HasAlarm, AreFound, Raises, RaisesIn, AddsAlarms}
use Rattle.ck_graph.proofs.SoundGraphs.{point_at_past}
use Rattle.ck_summary.proofs.StateCodes.{state_code-one}
use Rattle.ck_summary.proofs.StateLemmas.{state_code-below}

-- an alarm is its point's number and its kind
pub alarm-same : (a b : AlarmAt) → a.point.0 ≡ b.point.0 → a.kind ≡ b.kind → a ≡ b
alarm-same a b point kind =
    ap (λ p. let alarm : AlarmAt = record { point = record { 0 = p }; kind = a.kind } in alarm) point ∙
    ap (λ k. let alarm : AlarmAt = record { point = b.point; kind = k } in alarm) kind

-- the alarms of one point in the states below n
pub record AddedSoFar (op : Op) (rows : Rows) (point : ℕ) (old new : List AlarmAt) (n : ℕ) : Type 0 where
  pub kept : (alarm : AlarmAt) → Contains old alarm → Contains new alarm
  pub added : (alarm : AlarmAt) → alarm.point.0 ≡ point → (r : Raises op rows alarm) → state_code r.state < n →
      Contains new alarm
  pub only : (alarm : AlarmAt) → Contains new alarm →
      Contains old alarm ⊎ ((alarm.point.0 ≡ point) × Raises op rows alarm)

pub AddedSoFar-start : (op : Op) (rows : Rows) (point : ℕ) (old : List AlarmAt) → AddedSoFar op rows point old old 0
AddedSoFar-start op rows point old =
    record { kept = λ a h. h; added = λ a p r below. absurd (omega arith); only = λ a h. inl h }

kind-one : (j k : Kind) → Alarm j ≡ Alarm k → j ≡ k
kind-one j k e = cc

raises-in : (op : Op) (rows : Rows) (n : ℕ) (alarm : AlarmAt) → (r : Raises op rows alarm) → state_code r.state ≡ n →
    RaisesIn op rows n alarm.kind
raises-in op rows n alarm r same =
    record {
      from = r.from;
      state = r.state;
      code = same;
      pair = subst (Relates rows r.from) same r.pair;
      acts =
          r.acts;
    }

pub AddedSoFar-stays : (op : Op) (rows : Rows) (point : ℕ) (old new : List AlarmAt) (n : ℕ) →
    ((kind : Kind) → RaisesIn op rows n kind → ⊥) → AddedSoFar op rows point old new n →
    AddedSoFar op rows point old new (n + 1)
AddedSoFar-stays op rows point old new n none s = record {
  kept = s.kept;
  added = λ a p r below. elim (cases_eq (state_code r.state) n) [
    | inl same ↦ absurd (none a.kind (raises-in op rows n a r same))
    | inr other ↦ s.added a p r (omega (arith, below, other))
  ];
  only = s.only;
}

pub AddedSoFar-pushed : (op : Op) (rows : Rows) (n : ℕ) (alarm : AlarmAt) (old new : List AlarmAt) →
    RaisesIn op rows n alarm.kind → AddedSoFar op rows alarm.point.0 old new n →
    AddedSoFar op rows alarm.point.0 old (new ++ alarm ∷ []) (n + 1)
AddedSoFar-pushed op rows n alarm old new raises s = record {
  kept = λ a h. Contains-append_left new (alarm ∷ []) a (s.kept a h);
  added = λ a p r below. elim (cases_eq (state_code r.state) n) [
    | inl same ↦
        let is : r.state ≡ raises.state = state_code-one r.state raises.state (same ∙ sym raises.code) in
        let results : Alarm a.kind ≡ Alarm alarm.kind = sym r.acts ∙ (ap (act op) is ∙ raises.acts) in
        subst (Contains (new ++ alarm ∷ [])) (sym (alarm-same a alarm p (kind-one a.kind alarm.kind results)))
        (Contains-push new alarm)
    | inr other ↦ Contains-append_left new (alarm ∷ []) a (s.added a p r (omega (arith, below, other)))
  ];
  only = λ a h. elim (Contains-push_cases new alarm a h) [
    | inl before ↦ s.only a before
    | inr one ↦ inr (
      ap (λ (x : AlarmAt). x.point.0) (sym one),
      subst (Raises op rows) one
          (record {
            from = raises.from;
            state = raises.state;
            pair =
                subst (Relates rows raises.from) (sym raises.code) raises.pair;
            acts = raises.acts;
          }),
    )
  ];
}

pub AddsAlarms-from_all : (op : Op) (rows : Rows) (point : ℕ) (old new : List AlarmAt) (n : ℕ) → 16 ≤ n →
    AddedSoFar op rows point old new n → AddsAlarms op rows point old new
AddsAlarms-from_all op rows point old new n all s = record {
  kept = s.kept;
  added = λ a p r. s.added a p r (omega (arith, all, state_code-below r.state));
  only = s.only;
}

-- what an act raises
raised-from : (outcome : Outcome) (kind : Kind) → alarm_of_outcome outcome ≡ Some kind → outcome ≡ Alarm kind
raised-from (Next next) kind h = absurd (cc)
raised-from (Alarm k) kind h = let same : k ≡ kind = cc in ap Alarm same
raised-from End kind h = absurd (cc)

-- the alarms of the points below n
pub record FoundSoFar (flow : Flow) (table : List Rows) (found : List AlarmAt) (n : ℕ) : Type 0 where
  pub all : (alarm : AlarmAt) → alarm.point.0 < n → HasAlarm flow table alarm → Contains found alarm
  pub only : (alarm : AlarmAt) → Contains found alarm → HasAlarm flow table alarm

pub FoundSoFar-start : (flow : Flow) (table : List Rows) → FoundSoFar flow table [] 0
FoundSoFar-start flow table =
    record { all = λ a below h. absurd (omega arith); only = λ a h. absurd (omega (arith, h.1)) }

pub FoundSoFar-act : (flow : Flow) (table : List Rows) (old new : List AlarmAt) (n : ℕ) (op : Op) (name : ActName) →
    kind_at flow n ≡ Act op name → AddsAlarms op (rows_at table n) n old new → FoundSoFar flow table old n →
    FoundSoFar flow table new (n + 1)
FoundSoFar-act flow table old new n op name is adds s = record {
  all = λ a below h. elim (cases_eq a.point.0 n) [
    | inl same ↦
        let raised : alarm_in (Act op name) h.state ≡ Some a.kind =
        sym (ap (λ k. alarm_in k h.state) (ap (kind_at flow) same ∙ is)) ∙ h.raised in
        adds.added a same (record {
          from = h.from;
          state = h.state;
          pair =
              subst (λ p. Relates (rows_at table p) h.from (state_code h.state)) same h.pair;
          acts =
              raised-from (act op h.state) a.kind raised;
        })
    | inr other ↦ adds.kept a (s.all a (omega (arith, below, other)) h)
  ];
  only = λ a h. elim (adds.only a h) [
    | inl before ↦ s.only a before
    | inr r ↦ record {
      from = r.1.from;
      state = r.1.state;
      pair = subst (λ p. Relates (rows_at table p) r.1.from (state_code r.1.state)) (sym r.0) r.1.pair;
      raised = ap (λ k. alarm_in k r.1.state) (ap (kind_at flow) r.0 ∙ is) ∙ ap alarm_of_outcome r.1.acts;
    }
  ];
}

-- only an act raises an alarm
no_alarm : (kind : PointKind) (state : State) (alarm : Kind) → ((op : Op) (name : ActName) → kind ≡ Act op name → ⊥) →
    alarm_in kind state ≡ Some alarm → ⊥
no_alarm Plain state alarm none h = cc
no_alarm (Act op name) state alarm none h = none op name refl
no_alarm (Call call) state alarm none h = cc
no_alarm Exit state alarm none h = cc

pub FoundSoFar-other : (flow : Flow) (table : List Rows) (found : List AlarmAt) (n : ℕ) →
    ((op : Op) (name : ActName) → kind_at flow n ≡ Act op name → ⊥) → FoundSoFar flow table found n →
    FoundSoFar flow table found (n + 1)
FoundSoFar-other flow table found n none s = record {
  all = λ a below h. elim (cases_eq a.point.0 n) [
    | inl same ↦ absurd (no_alarm (kind_at flow a.point.0) h.state a.kind
        (λ op name e. none op name (ap (kind_at flow) (sym same) ∙ e)) h.raised)
    | inr other ↦ s.all a (omega (arith, below, other)) h
  ];
  only = s.only;
}

-- an alarm's point is there
pub alarm-there : (flow : Flow) (p : ℕ) (state : State) (kind : Kind) → alarm_in (kind_at flow p) state ≡ Some kind →
    p < point_count flow
alarm-there flow p state kind h = elim (cases_lt p (point_count flow)) [
  | inl below ↦ below
  | inr past ↦ absurd (no_alarm (kind_at flow p) state kind
      (λ op name e. let plain : Plain ≡ Act op name =
      sym (ap (λ (point : Point). point.kind) (point_at_past flow p past)) ∙ e in cc) h)
]

pub AreFound-from_all : (flow : Flow) (table : List Rows) (found : List AlarmAt) (n : ℕ) → point_count flow ≤ n →
    FoundSoFar flow table found n → AreFound flow table found
AreFound-from_all flow table found n all s = record {
  all = λ a h. s.all a (omega (arith, all, alarm-there flow a.point.0 h.state a.kind h.raised)) h;
  only = s.only;
}
