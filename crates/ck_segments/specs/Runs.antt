-- When the steps of segments fit the states: each act is allowed in its state, and each call cites a segment that runs
-- in the call's state.
use Rattle.std.specs.Prelude.{◌≡◌, ℕ, List, [], ◌∷◌, Some, length, slice_get, take}
use Rattle.ck_base.specs.declared.spans.FnId.{FnId}
use Rattle.ck_base.specs.declared.states.State.{State}
use Rattle.ck_base.specs.declared.states.Outcome.TheVariants.{Next}
use Rattle.ck_base.specs.Act.{act}
use Rattle.ck_graph.specs.declared.points.PointKind.{PointKind}
use Rattle.ck_graph.specs.declared.points.PointKind.TheVariants.{Plain, Act, Call as CallPoint, Exit}
use Rattle.ck_graph.specs.declared.entries.Root.{Root}
use Rattle.ck_graph.specs.Flow.{Flow}
use Rattle.ck_graph.specs.Steps.{kind_at, first_of, exit_of}
use Rattle.ck_segments.specs.declared.segments.Step.{Step}
use Rattle.ck_segments.specs.declared.segments.Step.TheVariants.{Edge, Call, Enter}
use Rattle.ck_segments.specs.Plain.{PlainSegment}
use Rattle.ck_segments.specs.Follows.{Follows}

-- what a finished segment does: its function is entered in one state, and returns in another
pub record Through : Type 0 where
  pub function : FnId
  pub entered : State
  pub left : State

-- an edge of a point of this kind is taken in one state and leads to another
abbrev pub StateLeads : PointKind → State → State → Type 0
StateLeads Plain state next = state ≡ next
StateLeads (Act op name) state next = act op state ≡ Next next
StateLeads (CallPoint call) state next = ⊥
StateLeads Exit state next = ⊥

-- a step leads from one point and state to another, where `lower` says what each segment of a lower number does
abbrev pub StepRuns : Flow → List Through → ℕ → State → Step → ℕ → State → Type 0
StepRuns flow lower p i (Edge k) q j = Follows flow p (Edge k) q × StateLeads (kind_at flow p) i j
StepRuns flow lower p i (Call target segment) q j =
    Follows flow p (Call target segment) q ×
    (slice_get lower segment ≡ Some (record { function = target; entered = i; left = j }))
StepRuns flow lower p i (Enter target) q j = Follows flow p (Enter target) q × (i ≡ j)

-- steps lead from one point and state to another
abbrev pub StepsRun : Flow → List Through → ℕ → State → List Step → ℕ → State → Type 0
StepsRun flow lower p i [] q j = (p ≡ q) × (i ≡ j)
StepsRun flow lower p i (step ∷ steps) q j =
    (r : ℕ) × (k : State) × StepRuns flow lower p i step r k × StepsRun flow lower r k steps q j

-- a finished segment does this
pub record RunsThrough (flow : Flow) (lower : List Through) (segment : PlainSegment) (through : Through) : Type 0 where
  pub function : segment.function ≡ through.function
  pub steps :
      StepsRun flow lower (first_of flow segment.function.0) through.entered segment.steps
      (exit_of flow segment.function.0) through.left

-- unfinished segments lead from where the first one's function is entered, in this state, to a point and a state
abbrev pub RunOn : Flow → List Through → State → List PlainSegment → ℕ → State → Type 0
RunOn flow lower i [] q j = ⊥
RunOn flow lower i (segment ∷ []) q j = StepsRun flow lower (first_of flow segment.function.0) i segment.steps q j
RunOn flow lower i (segment ∷ (next ∷ rest)) q j =
    (k : State) ×
    StepsRun flow lower (first_of flow segment.function.0) i segment.steps (first_of flow next.function.0) k ×
    RunOn flow lower k (next ∷ rest) q j

-- the first of these segments is one of this function
abbrev pub StartsIn : FnId → List PlainSegment → Type 0
StartsIn function [] = ⊥
StartsIn function (segment ∷ rest) = segment.function ≡ function

-- the steps fit the states, from the root to this point and state
pub record Fit (flow : Flow) (root : Root) (finished unfinished : List PlainSegment) (point : ℕ) (state : State) :
    Type 0 where
  pub through : List Through
  pub same : length through ≡ length finished
  pub each_through :
      (n : ℕ) (segment : PlainSegment) (does : Through) → slice_get finished n ≡ Some segment →
      slice_get through n ≡ Some does → RunsThrough flow (take n through) segment does
  pub starts : StartsIn root.function unfinished
  pub run : RunOn flow through root.start unfinished point state
