-- What the segments do that were traced: they run, in the states of their places.
use Rattle.std.proofs.Common.{◌≡◌, ℕ, ◌<◌, ◌++◌, List, [], ◌∷◌, Some, slice_get, refl, sym, ap, ◌∙◌, subst, arith}
use Rattle.std.specs.List.{All}
use Rattle.std.proofs.lemmas.List.Elements.{All-nil, All-cons, All-head, All-tail}
use Rattle.ck_base.specs.declared.spans.FnId.{FnId}
use Rattle.ck_base.specs.declared.states.State.{State}
use Rattle.ck_graph.specs.declared.entries.Root.{Root}
use Rattle.ck_graph.specs.Flow.{Flow, function_count}
use Rattle.ck_graph.specs.Faults.{IsSound}
use Rattle.ck_graph.specs.Steps.{first_of, MayEnter}
use Rattle.ck_segments.specs.declared.segments.Step.{Step}
use Rattle.ck_segments.specs.declared.segments.Step.TheVariants.{Edge, Call, Enter}
use Rattle.ck_segments.specs.Plain.{PlainSegment}
use Rattle.ck_segments.specs.Follows.{StepsLead}
use Rattle.ck_segments.specs.Form.{StaysWithin}
use Rattle.ck_segments.specs.Runs.{Through, StepRuns, StepsRun}
use Rattle.ck_paths.specs.declared.found.Place.{Place}
use Rattle.ck_paths.specs.declared.found.Reason.TheVariants.{IntoCall}
use Rattle.ck_paths.specs.Found.{IsAt}
use Rattle.ck_paths.specs.Justified.{AreJustified, Enters, function_of}
use Rattle.ck_paths.specs.Search.{IsReady}
use Rattle.ck_paths.specs.Tracing.{own_function, does_of, IsInside, IsTrace, IsEntryAt, IsSegmentTo, IsSegmentInto}
use Rattle.ck_paths.specs.Tracing.{IsEnteredFrom}
use Rattle.ck_paths.proofs.Citations.{one, holds}

-- functions of one number are one
pub same-function : (a b : FnId) → a.0 ≡ b.0 → a ≡ b
same-function a b e = ap (λ (n : ℕ). let f : FnId = record { 0 = n } in f) e

-- steps that run lead, apart from the states
pub lead-from_runs : (flow : Flow) (through : List Through) (steps : List Step) (p : ℕ) (i : State) (q : ℕ)
    (j : State) →
    StepsRun flow through p i steps q j → StepsLead flow p steps q
lead-from_runs flow through [] p i q j runs = runs.0
lead-from_runs flow through (Edge k ∷ steps) p i q j runs =
    (runs.0, runs.2.0, lead-from_runs flow through steps runs.0 runs.1 q j runs.3)
lead-from_runs flow through (Call target segment ∷ steps) p i q j runs =
    (runs.0, runs.2.0, lead-from_runs flow through steps runs.0 runs.1 q j runs.3)
lead-from_runs flow through (Enter target ∷ steps) p i q j runs =
    (runs.0, runs.2.0, lead-from_runs flow through steps runs.0 runs.1 q j runs.3)

-- one step more at the end
runs-push : (flow : Flow) (through : List Through) (steps : List Step) (p : ℕ) (i : State) (q : ℕ) (j : State)
    (step : Step) (r : ℕ) (k : State) → StepsRun flow through p i steps q j → StepRuns flow through q j step r k →
    StepsRun flow through p i (steps ++ step ∷ []) r k
runs-push flow through [] p i q j step r k runs last = (
  r,
  k,
  subst (λ (s : State). StepRuns flow through p s step r k) (sym runs.1)
      (subst (λ (x : ℕ). StepRuns flow through x j step r k) (sym runs.0) last),
  (refl, refl),
)
runs-push flow through (first ∷ steps) p i q j step r k runs last =
    (runs.0, runs.1, runs.2, runs-push flow through steps runs.0 runs.1 q j step r k runs.3 last)

-- what a segment of a number does is done by a segment of its function
pub record AreMatched (through : List Through) (segments : List PlainSegment) : Type 0 where
  pub each :
      (s : ℕ) (does : Through) → slice_get through s ≡ Some does →
      (cited : PlainSegment) × (slice_get segments s ≡ Some cited) × (cited.function ≡ does.function)

pub stays-from_runs : (flow : Flow) (through : List Through) (segments : List PlainSegment) →
    AreMatched through segments →
    (steps : List Step) (p : ℕ) (i : State) (q : ℕ) (j : State) → All IsInside steps →
    StepsRun flow through p i steps q j → All (StaysWithin segments) steps
stays-from_runs flow through segments matched [] p i q j inside runs = All-nil (StaysWithin segments)
stays-from_runs flow through segments matched (Edge k ∷ steps) p i q j inside runs =
    All-cons (StaysWithin segments) (Edge k) steps tt
    (stays-from_runs flow through segments matched steps runs.0 runs.1 q j (All-tail IsInside (Edge k) steps inside)
    runs.3)
stays-from_runs flow through segments matched (Call target segment ∷ steps) p i q j inside runs =
    All-cons (StaysWithin segments) (Call target segment) steps
    (matched.each segment (record { function = target; entered = i; left = runs.1 }) runs.2.1)
    (stays-from_runs flow through segments matched steps runs.0 runs.1 q j
    (All-tail IsInside (Call target segment) steps inside) runs.3)
stays-from_runs flow through segments matched (Enter target ∷ steps) p i q j inside runs =
    absurd (All-head IsInside (Enter target) steps inside)

-- steps from where a function is entered to a place of the same call
pub record RunsTo (flow : Flow) (through : List Through) (entry : Place) (function : FnId) (steps : List Step)
    (place : Place) : Type 0 where
  pub own : function ≡ own_function flow place
  pub there : function.0 < function_count flow
  pub entered : entry.from ≡ place.from
  pub runs : StepsRun flow through (first_of flow function.0) entry.from steps place.point.0 place.to
  pub inside : All IsInside steps

module _ (flow : Flow) (sound : IsSound flow) (places : List Place) (last : List ℕ)
    (ready : IsReady flow places last) where
  runs-trace : (exits : List ℕ) (entry n : ℕ) (steps : List Step) (function : FnId) →
      (entered : IsEntryAt flow places entry) →
      (trace : IsTrace flow places exits entry n steps) → function ≡ own_function flow entered.place →
      (start place : Place) → IsAt places entry start → IsAt places n place →
      RunsTo flow (does_of flow places exits) start function steps place
  runs-trace exits entry n steps function entered trace named start place start_at place_at =
      let through : List Through = does_of flow places exits in
      let from : trace.from ≡ entered.place = one places entry trace.from entered.place trace.from_at entered.at in
      let begins : start ≡ entered.place = one places entry start entered.place start_at entered.at in
      let to : trace.to ≡ place = one places n trace.to place trace.to_at place_at in
      let first : trace.from.point.0 ≡ first_of flow function.0 =
      ap (λ (p : Place). p.point.0) from ∙ (sym entered.entry.first ∙
      ap (λ (f : FnId). first_of flow f.0) (sym named)) in
      let state : trace.from.to ≡ start.from =
      ap (λ (p : Place). p.to) from ∙ (sym entered.entry.state ∙ ap (λ (p : Place). p.from) (sym begins)) in
      let one_call : function_of flow entered.place ≡ function_of flow place =
      ap (function_of flow) (sym from) ∙ (trace.one_call.function ∙ ap (function_of flow) to) in
      let own : function ≡ own_function flow place =
      named ∙ same-function (own_function flow entered.place) (own_function flow place) one_call in
      record {
        own = own;
        there =
            subst (λ (f : FnId). f.0 < function_count flow) (sym named)
            (sound.points entered.place.point.0 (omega (
              arith,
              ready.linked.points entry entered.place entered.at,
              ready.size,
            ))).function;
        entered =
            ap (λ (p : Place). p.from) (begins ∙ sym from) ∙ (trace.one_call.entered ∙ ap (λ (p : Place). p.from) to);
        runs =
            subst (λ (x : ℕ). StepsRun flow through x start.from steps place.point.0 place.to) first
            (subst (λ (s : State). StepsRun flow through trace.from.point.0 s steps place.point.0 place.to) state
            (subst (λ (p : Place). StepsRun flow through trace.from.point.0 trace.from.to steps p.point.0 p.to) to
            trace.runs));
        inside = trace.inside;
      }

  pub runs-to : (exits : List ℕ) (entry n : ℕ) (segment : PlainSegment) →
      IsSegmentTo flow places exits entry n segment →
      (start place : Place) → IsAt places entry start → IsAt places n place →
      RunsTo flow (does_of flow places exits) start segment.function segment.steps place
  runs-to exits entry n segment leads start place start_at place_at =
      runs-trace exits entry n segment.steps segment.function leads.entered leads.traced.trace leads.function start
      place start_at place_at

  -- a segment that goes into a function, to where that is entered
  pub record RunsInto (exits : List ℕ) (start : Place) (segment : PlainSegment) (target : FnId) (callee : Place) :
      Type 0 where
    pub there : segment.function.0 < function_count flow
    pub before : List Step
    pub ends : segment.steps ≡ before ++ Enter target ∷ []
    pub inside : All IsInside before
    pub caller : Place
    pub inner : StepsRun flow (does_of flow places exits) (first_of flow segment.function.0) start.from before
        caller.point.0 caller.to
    pub runs : StepsRun flow (does_of flow places exits) (first_of flow segment.function.0) start.from segment.steps
        (first_of flow target.0) callee.from

  pub runs-into : (roots : List Root) → AreJustified flow roots places →
      (exits : List ℕ) (entry c e : ℕ) (target : FnId)
      (segment : PlainSegment) → IsSegmentInto flow places exits entry c target segment → IsEnteredFrom places e c →
      (start callee : Place) → IsAt places entry start → IsAt places e callee → target ≡ own_function flow callee →
      RunsInto exits start segment target callee
  runs-into roots all exits entry c e target segment into from start callee start_at callee_at named =
      let through : List Through = does_of flow places exits in
      let same : from.place ≡ callee = one places e from.place callee from.at callee_at in
      let enters : Enters flow places e c callee =
      subst (λ (p : Place). Enters flow places e c p) same (holds flow roots places all e from.place (IntoCall c)
      from.at from.cause) in
      let inner = runs-trace exits entry c into.before segment.function into.entered into.traced.trace into.function
      start enters.caller start_at enters.at in
      let may : MayEnter flow enters.caller.point.0 target.0 =
      subst (λ (f : FnId). MayEnter flow enters.caller.point.0 f.0) (sym named) enters.enters in
      record {
        there = inner.there;
        before = into.before;
        ends = into.ends;
        inside = inner.inside;
        caller = enters.caller;
        inner = inner.runs;
        runs =
            subst (λ steps. StepsRun flow through (first_of flow segment.function.0) start.from steps
            (first_of flow target.0) callee.from) (sym into.ends)
            (runs-push flow through into.before (first_of flow segment.function.0) start.from enters.caller.point.0
            enters.caller.to
            (Enter target) (first_of flow target.0) callee.from inner.runs ((may, refl), enters.state));
      }
