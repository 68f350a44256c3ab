-- From a place back to where its function is entered. It serves private contracts alone.
use Rattle.std.specs.Prelude.{◌≡◌, ◌<◌, ◌≤◌, ◌⊎◌, ◌++◌, ⊤, ℕ, Bool, List, [], ◌∷◌, All, Contains, Some, length, map}
use Rattle.std.specs.Prelude.{slice_get, slice_index_or, take}
use Rattle.ck_base.specs.declared.spans.FnId.{FnId}
use Rattle.ck_base.specs.declared.states.State.TheVariants.{TI}
use Rattle.ck_graph.specs.Flow.{Flow, point_at}
use Rattle.ck_graph.specs.Steps.{kind_at}
use Rattle.ck_graph.specs.Forbidden.{PointAlarm, alarm_in}
use Rattle.ck_segments.specs.declared.segments.Step.{Step}
use Rattle.ck_segments.specs.declared.segments.Step.TheVariants.{Edge, Call, Enter}
use Rattle.ck_segments.specs.Plain.{PlainSegment}
use Rattle.ck_segments.specs.Runs.{Through, StepsRun}
use Rattle.ck_paths.specs.declared.found.Place.{Place}
use Rattle.ck_paths.specs.declared.found.Reason.TheVariants.{AtRoot, IntoCall}
use Rattle.ck_paths.specs.Found.{IsAt}
use Rattle.ck_paths.specs.Justified.{IsEntry, AreInOneCall}
use Rattle.ck_paths.specs.Citing.{Cites}

-- what a number that no place has is read as
abbrev pub no_place : Place
no_place = record { point = record { 0 = 0 }; from = TI; to = TI; reason = AtRoot 0; same = 0 }

-- the function that a place is in
abbrev pub own_function : Flow → Place → FnId
own_function flow place = (point_at flow place.point.0).function

-- what a call does whose function returns at this place
abbrev pub does_at : Flow → Place → Through
does_at flow place = record { function = own_function flow place; entered = place.from; left = place.to }

-- what the segments do that lead to these exits
abbrev pub does_of : Flow → List Place → List ℕ → List Through
does_of flow places exits = map (λ x. does_at flow (slice_index_or places x no_place)) exits

-- the step isn't gone into
abbrev pub IsInside : Step → Type 0
IsInside (Edge k) = ⊤
IsInside (Call target segment) = ⊤
IsInside (Enter target) = ⊥

-- the steps lead from one place to another of the same call
pub record IsTrace (flow : Flow) (places : List Place) (exits : List ℕ) (a n : ℕ) (steps : List Step) : Type 0 where
  pub from : Place
  pub from_at : IsAt places a from
  pub to : Place
  pub to_at : IsAt places n to
  pub one_call : AreInOneCall flow from to
  pub runs : StepsRun flow (does_of flow places exits) from.point.0 from.to steps to.point.0 to.to
  pub inside : All IsInside steps

-- a step is a call that cites this exit
abbrev pub CallsTo : List ℕ → Step → ℕ → Type 0
CallsTo exits step x = (target : FnId) × (s : ℕ) × (step ≡ Call target s) × (slice_get exits s ≡ Some x)

-- one of the steps is
abbrev pub HasCallTo : List ℕ → List Step → ℕ → Type 0
HasCallTo exits steps x = (step : Step) × Contains steps step × CallsTo exits step x

-- a step leads from an earlier place to this one
pub record LeadsFrom (flow : Flow) (places : List Place) (exits : List ℕ) (a b : ℕ) (step : Step) : Type 0 where
  pub earlier : b < a
  pub more :
      (n : ℕ) (steps : List Step) → IsTrace flow places exits a n steps → IsTrace flow places exits b n (step ∷ steps)
  pub up : (on : Bool) (x : ℕ) → Cites places on b x → Cites places on a x
  pub down : (on : Bool) (x : ℕ) → Cites places on a x → CallsTo exits step x ⊎ Cites places on b x

-- a function is entered at the place of this number, by a root or by a call
pub record IsEntryAt (flow : Flow) (places : List Place) (a : ℕ) : Type 0 where
  pub place : Place
  pub at : IsAt places a place
  pub entry : IsEntry flow place
  pub cause : ((k : ℕ) × (place.reason ≡ AtRoot k)) ⊎ ((c : ℕ) × (place.reason ≡ IntoCall c))

-- the steps lead to a place from where its function is entered, over the calls that the way back cites
pub record IsTraced (flow : Flow) (places : List Place) (exits : List ℕ) (a n : ℕ) (steps : List Step) : Type 0 where
  pub trace : IsTrace flow places exits a n steps
  pub earlier : a ≤ n
  pub up : (on : Bool) (x : ℕ) → Cites places on a x → Cites places on n x
  pub down : (on : Bool) (x : ℕ) → Cites places on n x → HasCallTo exits steps x ⊎ Cites places on a x

-- a segment leads to a place from where its function is entered
pub record IsSegmentTo (flow : Flow) (places : List Place) (exits : List ℕ) (entry n : ℕ) (segment : PlainSegment) :
    Type 0 where
  pub entered : IsEntryAt flow places entry
  pub traced : IsTraced flow places exits entry n segment.steps
  pub function : segment.function ≡ own_function flow entered.place

-- a segment leads to a call at a place, and goes into this function
pub record IsSegmentInto (flow : Flow) (places : List Place) (exits : List ℕ) (entry c : ℕ) (target : FnId)
    (segment : PlainSegment) : Type 0 where
  pub entered : IsEntryAt flow places entry
  pub before : List Step
  pub traced : IsTraced flow places exits entry c before
  pub ends : segment.steps ≡ before ++ Enter target ∷ []
  pub function : segment.function ≡ own_function flow entered.place

-- a segment for each exit, which cites those before it
pub record AreToExits (flow : Flow) (places : List Place) (exits : List ℕ) (segments : List PlainSegment) : Type 0 where
  pub same : length segments ≡ length exits
  pub each :
      (s x : ℕ) → slice_get exits s ≡ Some x →
      (segment : PlainSegment) × (slice_get segments s ≡ Some segment) × (entry : ℕ) ×
      IsSegmentTo flow places (take s exits) entry x segment

-- the function that starts at the place of this number is entered by the call at another
pub record IsEnteredFrom (places : List Place) (entry c : ℕ) : Type 0 where
  pub place : Place
  pub at : IsAt places entry place
  pub cause : place.reason ≡ IntoCall c

-- segments lead from where the first one's function is entered to a place, each going into the next
abbrev pub AreOpen : Flow → List Place → List ℕ → ℕ → List PlainSegment → ℕ → Type 0
AreOpen flow places exits entry [] n = ⊥
AreOpen flow places exits entry (segment ∷ []) n = IsSegmentTo flow places exits entry n segment
AreOpen flow places exits entry (segment ∷ (next ∷ rest)) n =
    (e : ℕ) × (c : ℕ) × IsEnteredFrom places e c × IsSegmentInto flow places exits entry c next.function segment ×
    AreOpen flow places exits e (next ∷ rest) n

-- the place of this number raises the alarm
pub record IsRaisedAt (flow : Flow) (places : List Place) (alarm : PointAlarm) (n : ℕ) : Type 0 where
  pub place : Place
  pub at : IsAt places n place
  pub there : place.point.0 ≡ alarm.point
  pub raised : alarm_in (kind_at flow place.point.0) place.to ≡ Some alarm.kind
