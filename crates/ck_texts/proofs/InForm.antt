-- A path that is in form and leads to its alarm has numbers of its graph and of a root alone.
use Rattle.std.proofs.Common.{◌≡◌, ◌<◌, None, Some, ap, subst, inl, inr, ℕ, List, [], ◌∷◌, get_or}
use Rattle.std.specs.List.{All}
use Rattle.std.proofs.lemmas.List.Elements.{All-cons, All-nil}
use Rattle.std.proofs.lemmas.Bool.{cases_lt}
use Rattle.std.proofs.lemmas.Option.{slice_get-get_or, slice_get_within}
use Rattle.ck_base.specs.declared.states.Kind.{Kind}
use Rattle.ck_base.specs.declared.states.State.{State}
use Rattle.ck_graph.specs.Faults.{IsSound}
use Rattle.ck_graph.specs.Flow.{Flow, point_at, point_count}
use Rattle.ck_graph.specs.Forbidden.{alarm_in}
use Rattle.ck_graph.proofs.SoundGraphs.{point_at_past, target-below}
use Rattle.ck_segments.specs.Follows.{Follows, StepsLead}
use Rattle.ck_segments.specs.Form.{AreInForm}
use Rattle.ck_segments.specs.Plain.{PlainSegment}
use Rattle.ck_segments.specs.declared.segments.Step.{Step}
use Rattle.ck_segments.specs.declared.segments.Step.TheVariants as way
use Rattle.ck_segments.proofs.Fitting.{lead}
use Rattle.ck_texts.specs.Laws.{PathsMeetReports}
use Rattle.ck_texts.specs.Placed.{IsSegmentOf, IsStepOf}

IsStepOf-follows : (flow : Flow) → IsSound flow → (from to : ℕ) (step : Step) → Follows flow from step to
    → IsStepOf flow step
IsStepOf-follows flow sound from to (way.Edge k) follows = tt
IsStepOf-follows flow sound from to (way.Call target segment) follows =
    target-below flow sound from target.0 follows.0
IsStepOf-follows flow sound from to (way.Enter target) follows = target-below flow sound from target.0 follows.0

steps-named : (flow : Flow) → IsSound flow → (from to : ℕ) (steps : List Step) → StepsLead flow from steps to
    → All (IsStepOf flow) steps
steps-named flow sound from to [] leads = All-nil (IsStepOf flow)
steps-named flow sound from to (step ∷ steps) leads =
    All-cons (IsStepOf flow) step steps (IsStepOf-follows flow sound from leads.0 step leads.1)
    (steps-named flow sound leads.0 to steps leads.2)

segments-named : (flow : Flow) (list : List PlainSegment) → IsSound flow → AreInForm flow list
    → All (IsSegmentOf flow) list
segments-named flow list sound form n d below =
    let segment : PlainSegment = get_or list n d in
    let leads = lead flow list form n segment (slice_get-get_or list n d below) in
    record {
      function = leads.1.function;
      steps = steps-named flow sound _ leads.0 segment.steps leads.1.steps;
    }

-- an alarm's point is there: the one that isn't is no act
alarm-there : (flow : Flow) (p : ℕ) (state : State) (kind : Kind) → alarm_in (point_at flow p).kind state ≡ Some kind
    → p < point_count flow
alarm-there flow p state kind raised = elim (cases_lt p (point_count flow)) [
  | inl there ↦ there
  | inr past ↦
      let none : alarm_in (point_at flow p).kind state ≡ None =
      ap (λ point. alarm_in point.kind state) (point_at_past flow p past) in
      absurd (cc)
]

pub paths_meet : PathsMeetReports
paths_meet flow roots alarm sound form leads = record {
  point = subst (λ p. p < point_count flow) leads.there
      (alarm-there flow leads.configuration.top.point leads.configuration.state alarm.at.kind leads.forbidden);
  root = slice_get_within roots alarm.path.root leads.root leads.listed;
  segments = segments-named flow alarm.path.list sound form;
}
