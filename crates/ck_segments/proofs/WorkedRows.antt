-- Worked examples, computed on the definitions: a vector's function that returns before the epilogue, which is one
-- finished segment, and a path of three unfinished ones.
use Rattle.std.proofs.Common.{◌≡◌, ℕ, List, [], ◌∷◌, Option, Some, None, refl}
use Rattle.ck_base.specs.declared.spans.FnId.{FnId}
use Rattle.ck_base.specs.declared.refusals.Spot.TheVariants.{Nowhere}
use Rattle.ck_base.specs.declared.ops.Op.{Op}
use Rattle.ck_base.specs.declared.ops.Op.TheVariants.{Prologue, Epilogue, HandlerReturn}
use Rattle.ck_base.specs.declared.states.State.TheVariants.{HB}
use Rattle.ck_base.specs.declared.states.Kind.{Kind}
use Rattle.ck_base.specs.declared.states.Kind.TheVariants.{P}
use Rattle.ck_graph.specs.declared.points.Edge.{Edge as EdgeOf}
use Rattle.ck_graph.specs.declared.points.Label.TheVariants as label
use Rattle.ck_graph.specs.declared.points.ActName.TheVariants as name
use Rattle.ck_graph.specs.declared.points.PointKind.{PointKind}
use Rattle.ck_graph.specs.declared.points.PointKind.TheVariants.{Plain, Act, Call as CallPoint, Exit}
use Rattle.ck_graph.specs.declared.points.FunctionPart.{FunctionPart}
use Rattle.ck_graph.specs.declared.entries.Entry.TheVariants as entry
use Rattle.ck_graph.specs.declared.entries.Root.{Root}
use Rattle.ck_graph.specs.Flow.{Flow, Point, point_at, function_at}
use Rattle.ck_graph.specs.Walk.{Configuration, TakeEdge, EnterTarget, ReturnToCaller, walk}
use Rattle.ck_graph.specs.Forbidden.{alarm_in}
use Rattle.ck_segments.specs.declared.segments.Step.{Step}
use Rattle.ck_segments.specs.declared.segments.Step.TheVariants.{Edge, Call, Enter}
use Rattle.ck_segments.specs.Plain.{PlainSegment}
use Rattle.ck_segments.specs.Expansion.{expand}

abbrev function : ℕ → FnId
function n = record { 0 = n }

abbrev segment : ℕ → List Step → PlainSegment
segment n steps = record { function = function n; steps = steps }

abbrev edges_to : List ℕ → List EdgeOf
edges_to [] = []
edges_to (n ∷ rest) = record { to = record { 0 = n }; label = label.Plain } ∷ edges_to rest

abbrev point : PointKind → ℕ → List ℕ → List FnId → Point
point kind owner to targets = record {
  kind = kind;
  function = function owner;
  site = Nowhere;
  path = [];
  order =
      [];
  side = 0;
  edges = edges_to to;
  targets = targets;
}

abbrev act_of : Op → PointKind
act_of op = Act op (name.Outside 0)

abbrev ends : ℕ → ℕ → FunctionPart
ends first exit = record { first = record { 0 = first }; exit = record { 0 = exit } }

abbrev alarm_after : Flow → Option Configuration → Option (Option Kind)
alarm_after flow None = None
alarm_after flow (Some c) = Some (alarm_in (point_at flow c.top.point).kind c.state)

-- a vector's function: Prologue; a test that goes on or returns; Epilogue. Round it a synthetic function, which returns
-- from the handler
handler : Flow
handler = record {
  points =
      point (act_of Prologue) 0 (1 ∷ []) [] ∷ point Plain 0 (3 ∷ 2 ∷ []) [] ∷ point (act_of Epilogue) 0 (3 ∷ []) [] ∷
      point Exit 0 [] [] ∷
      point (CallPoint 0) 1 (5 ∷ []) (function 0 ∷ []) ∷ point (act_of HandlerReturn) 1 (6 ∷ []) [] ∷ point Exit 1 []
      [] ∷ [];
  functions = ends 0 3 ∷ ends 4 6 ∷ [];
}

vector_root : Root
vector_root = record { entry = entry.Vector 0; function = function 1; start = HB }

-- the function returns where the test holds, and the synthetic function cites it
early_return : List PlainSegment
early_return = segment 0 (Edge 0 ∷ Edge 0 ∷ []) ∷ segment 1 (Call (function 0) 0 ∷ []) ∷ []

early_return_moves : expand early_return ≡ EnterTarget 0 ∷ TakeEdge 0 ∷ TakeEdge 0 ∷ ReturnToCaller ∷ []
unfolding early_return
early_return_moves = refl

-- the return without an epilogue is P#3
alarm_of_early_return : alarm_after handler (walk handler vector_root (expand early_return)) ≡ Some (Some (P 3))
unfolding handler early_return vector_root point_at function_at
alarm_of_early_return = refl

-- the other edge reaches the epilogue, and the return is allowed
no_alarm_of_the_other_edge : alarm_after handler (walk handler vector_root
    (expand (segment 0 (Edge 0 ∷ Edge 1 ∷ Edge 0 ∷ []) ∷ segment 1 (Call (function 0) 0 ∷ []) ∷ []))) ≡ Some None
unfolding handler vector_root point_at function_at
no_alarm_of_the_other_edge = refl

-- a step over the call is no move
no_step_over_a_call : walk handler vector_root (expand (segment 1 (Edge 0 ∷ []) ∷ [])) ≡ None
unfolding handler vector_root point_at function_at
no_step_over_a_call = refl

-- a segment that is cited before it is there stands for no moves, so the call comes back from no exit
no_later_segment : walk handler vector_root (expand (segment 1 (Call (function 0) 1 ∷ []) ∷ segment 0
    (Edge 0 ∷ Edge 0 ∷ []) ∷ [])) ≡ None
unfolding handler vector_root point_at function_at
no_later_segment = refl

-- a segment that two calls cite stands for its moves twice, and is itself no part of the path; three unfinished ones go
-- one into the next
nested : List PlainSegment
nested =
    segment 3 (Edge 0 ∷ []) ∷ segment 2 (Call (function 3) 0 ∷ Call (function 3) 0 ∷ []) ∷
    segment 0 (Enter (function 1) ∷ []) ∷ segment 1 (Call (function 2) 1 ∷ Enter (function 3) ∷ []) ∷ segment 3
    (Edge 0 ∷ []) ∷ []

nested_moves : expand nested ≡
    EnterTarget 1 ∷
    EnterTarget 2 ∷ EnterTarget 3 ∷ TakeEdge 0 ∷ ReturnToCaller ∷ EnterTarget 3 ∷ TakeEdge 0 ∷ ReturnToCaller ∷
    ReturnToCaller ∷
    EnterTarget 3 ∷ TakeEdge 0 ∷ []
unfolding nested
nested_moves = refl
