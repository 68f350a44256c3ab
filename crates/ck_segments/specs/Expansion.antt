-- What a numbered list of segments expands to: the moves of a walk, and the walk to an alarm that they make.
use Rattle.std.specs.Prelude.{◌≡◌, ◌++◌, Bool, true, false, if◌then◌else◌, List, [], ◌∷◌, Some, slice_get}
use Rattle.std.specs.Prelude.{slice_index_or}
use Rattle.ck_graph.specs.declared.entries.Root.{Root}
use Rattle.ck_graph.specs.Flow.{Flow}
use Rattle.ck_graph.specs.Walk.{Configuration, Move, TakeEdge, EnterTarget, ReturnToCaller, walk}
use Rattle.ck_graph.specs.Forbidden.{PointAlarm, IsForbidden}
use Rattle.ck_segments.specs.declared.segments.Step.{Step}
use Rattle.ck_segments.specs.declared.segments.Step.TheVariants.{Edge, Call, Enter}
use Rattle.ck_segments.specs.Plain.{PlainSegment, PlainSegments}

-- the moves of a step, where `lower` has the moves of each segment of a lower number
abbrev pub step_moves : List (List Move) → Step → List Move
step_moves lower (Edge k) = TakeEdge k ∷ []
step_moves lower (Call target segment) =
    EnterTarget target.0 ∷ (slice_index_or lower segment [] ++ ReturnToCaller ∷ [])
step_moves lower (Enter target) = EnterTarget target.0 ∷ []

-- the moves of steps, one after the other
abbrev pub steps_moves : List (List Move) → List Step → List Move
steps_moves lower [] = []
steps_moves lower (step ∷ steps) = step_moves lower step ++ steps_moves lower steps

-- the last step goes into a call
abbrev pub goes_in : List Step → Bool
goes_in [] = false
goes_in (Enter target ∷ []) = true
goes_in (step ∷ steps) = goes_in steps

-- a segment is unfinished where it is the last, or goes into a call in which the next one goes on
abbrev pub is_unfinished : PlainSegment → List PlainSegment → Bool
is_unfinished segment [] = true
is_unfinished segment (next ∷ rest) = goes_in segment.steps

-- the moves of the unfinished segments, one after the other. A finished one only serves the calls that cite it
abbrev pub expand_from : List (List Move) → List PlainSegment → List Move
expand_from lower [] = []
expand_from lower (segment ∷ rest) =
    let moves = steps_moves lower segment.steps in
    (if is_unfinished segment rest then moves else []) ++ expand_from (lower ++ moves ∷ []) rest

-- the moves of a numbered list of segments
abbrev pub expand : List PlainSegment → List Move
expand list = expand_from [] list

-- the segments expand to a walk from their root, which is one of these, to the alarm
pub record LeadsToAlarm (flow : Flow) (roots : List Root) (segments : PlainSegments) (alarm : PointAlarm) : Type 0 where
  pub root : Root
  pub listed : slice_get roots segments.root ≡ Some root
  pub configuration : Configuration
  pub walked : walk flow root (expand segments.list) ≡ Some configuration
  pub there : configuration.top.point ≡ alarm.point
  pub forbidden : IsForbidden flow configuration alarm.kind
