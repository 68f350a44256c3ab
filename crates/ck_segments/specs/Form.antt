-- When a numbered list of segments is in form: first the finished ones, each cited, and each after those that it cites;
-- then the unfinished ones, which go one into the next.
use Rattle.std.specs.Prelude.{◌≡◌, ◌<◌, ◌++◌, ⊤, ℕ, List, [], ◌∷◌, All, Contains, Some, length, slice_get, take}
use Rattle.ck_base.specs.declared.spans.FnId.{FnId}
use Rattle.ck_graph.specs.Flow.{Flow, function_count}
use Rattle.ck_graph.specs.Steps.{first_of, exit_of}
use Rattle.ck_segments.specs.declared.segments.Step.{Step}
use Rattle.ck_segments.specs.declared.segments.Step.TheVariants.{Edge, Call, Enter}
use Rattle.ck_segments.specs.Plain.{PlainSegment}
use Rattle.ck_segments.specs.Follows.{StepsLead}

-- the segment is a path of its function, from the function's first point to this point
pub record IsPathTo (flow : Flow) (segment : PlainSegment) (to : ℕ) : Type 0 where
  pub function : segment.function.0 < function_count flow
  pub steps : StepsLead flow (first_of flow segment.function.0) segment.steps to

-- the step stays in its function: an edge, or a call that returns, with a segment of `lower` that is one of the
-- called function
abbrev pub StaysWithin : List PlainSegment → Step → Type 0
StaysWithin lower (Edge k) = ⊤
StaysWithin lower (Call target segment) =
    (cited : PlainSegment) × (slice_get lower segment ≡ Some cited) × (cited.function ≡ target)
StaysWithin lower (Enter target) = ⊥

-- a finished segment leads to its function's exit, and cites segments of lower numbers
pub record IsFinished (flow : Flow) (lower : List PlainSegment) (segment : PlainSegment) : Type 0 where
  pub path : IsPathTo flow segment (exit_of flow segment.function.0)
  pub stays : All (StaysWithin lower) segment.steps

-- the path's last segment leads to any point of its function, and cites finished segments
pub record IsLast (flow : Flow) (finished : List PlainSegment) (segment : PlainSegment) : Type 0 where
  pub to : ℕ
  pub path : IsPathTo flow segment to
  pub stays : All (StaysWithin finished) segment.steps

-- an unfinished segment before the last cites finished segments, and ends by going into the next one's function
pub record GoesInto (flow : Flow) (finished : List PlainSegment) (segment next : PlainSegment) : Type 0 where
  pub path : IsPathTo flow segment (first_of flow next.function.0)
  pub before : List Step
  pub stays : All (StaysWithin finished) before
  pub ends : segment.steps ≡ before ++ Enter next.function ∷ []

-- unfinished segments go one into the next. There is at least one
abbrev pub AreUnfinished : Flow → List PlainSegment → List PlainSegment → Type 0
AreUnfinished flow finished [] = ⊥
AreUnfinished flow finished (segment ∷ []) = IsLast flow finished segment
AreUnfinished flow finished (segment ∷ (next ∷ rest)) =
    GoesInto flow finished segment next × AreUnfinished flow finished (next ∷ rest)

-- a call of one of the segments cites the segment of this number
pub record IsCited (list : List PlainSegment) (number : ℕ) : Type 0 where
  pub segment : PlainSegment
  pub there : Contains list segment
  pub target : FnId
  pub cites : Contains segment.steps (Call target number)

-- a numbered list of segments is in form
pub record AreInForm (flow : Flow) (list : List PlainSegment) : Type 0 where
  pub finished : List PlainSegment
  pub unfinished : List PlainSegment
  pub parts : list ≡ finished ++ unfinished
  pub each_finished :
      (n : ℕ) (segment : PlainSegment) → slice_get finished n ≡ Some segment →
      IsFinished flow (take n finished) segment
  pub going_on : AreUnfinished flow finished unfinished
  pub each_cited : (n : ℕ) → n < length finished → IsCited list n
