-- The graph with the targets of its calls and with the synthetic functions of a list of contexts (docs/FLOW.md,
-- "Entries").
use Rattle.std.specs.Prelude.{ℕ, zero, suc, ◌+◌, List, [], ◌∷◌, ◌++◌, length, map}
use Rattle.ck_base.specs.declared.spans.FnId.{FnId}
use Rattle.ck_graph.specs.declared.points.Edge.{Edge}
use Rattle.ck_graph.specs.declared.points.FunctionPart.{FunctionPart}
use Rattle.ck_graph.specs.declared.points.Label.{Label}
use Rattle.ck_graph.specs.declared.points.Label.TheVariants as label
use Rattle.ck_graph.specs.declared.points.PointKind.{PointKind}
use Rattle.ck_graph.specs.declared.points.PointKind.TheVariants as kind
use Rattle.ck_graph.specs.Flow.{Flow, Point, point_count, function_count}
use Rattle.ck_contexts.specs.declared.contexts.Context.{Context}
use Rattle.ck_contexts.specs.declared.placing.Placing.{Placing}
use Rattle.ck_contexts.specs.declared.steps.Step.{Step}
use Rattle.ck_contexts.specs.declared.steps.Step.TheVariants.{Act, Call, Pick}
use Rattle.ck_contexts.specs.Synthetic.{steps, functions_of, site_of}

-- targets of calls ---------------------------------------------------------------------------------------------------

-- a call's targets are those of its number; any other point keeps its own
abbrev pub targets_at : (ℕ → List FnId) → PointKind → List FnId → List FnId
targets_at targets (kind.Call number) own = targets number
targets_at targets _ own = own

abbrev pub with_targets : (ℕ → List FnId) → Point → Point
with_targets targets point = record point { targets = targets_at targets point.kind point.targets }

abbrev pub filled : (ℕ → List FnId) → Flow → Flow
filled targets flow = record flow { points = map (with_targets targets) flow.points }

-- the points of a synthetic function ---------------------------------------------------------------------------------

-- an edge to a place of the function
abbrev pub edge : Placing → ℕ → Label → Edge
edge at place label = record { to = record { 0 = at.first + place }; label = label }

-- edges Pick k, Pick k + 1, .. to the parts of so many functions; a part has `size` points, and the first is at `place`
abbrev pub picks : Placing → ℕ → ℕ → ℕ → ℕ → List Edge
picks at k place size zero = []
picks at k place size (suc functions) =
    edge at place (label.Pick k) ∷ picks at (k + 1) (place + size) size functions

-- the point at a place of the function: its path is the place, it has no orders, and its side is `before`
abbrev pub point : Placing → ℕ → PointKind → List Edge → List FnId → Point
point at place kind edges targets = record {
  kind = kind;
  function = at.function;
  site = at.site;
  path = place ∷ [];
  order = [];
  side = 1;
  edges = edges;
  targets = targets;
}

abbrev pub point_of_step : Placing → ℕ → Step → Point
point_of_step at place (Act op name next) =
    point at place (kind.Act op name) (edge at next label.Plain ∷ []) []
point_of_step at place (Call number f next) =
    point at place (kind.Call number) (edge at next label.Plain ∷ []) (f ∷ [])
point_of_step at place (Pick after part size functions) =
    point at place kind.Plain (edge at after (label.Pick 0) ∷ picks at 1 part size functions) []

-- the points of the steps, the first of which is at this place, and the exit after them
abbrev pub points_from : Placing → ℕ → List Step → List Point
points_from at place [] = point at place kind.Exit [] [] ∷ []
points_from at place (s ∷ ss) = point_of_step at place s ∷ points_from at (place + 1) ss

-- graphs -------------------------------------------------------------------------------------------------------------

-- where the synthetic function of a context goes: after all points and functions of the graph
abbrev pub placing : ℕ → Flow → Context → Placing
placing number flow context = record {
  function = record { 0 = function_count flow };
  first = point_count flow;
  exit = point_count flow + length (steps number context);
  site = site_of context;
}

abbrev pub function_placed : Placing → FunctionPart
function_placed at = record { first = record { 0 = at.first }; exit = record { 0 = at.exit } }

-- the graph with the synthetic function of a context; the number is that of the function's first call
abbrev pub with_context : ℕ → Flow → Context → Flow
with_context number flow context = record {
  points = flow.points ++ points_from (placing number flow context) 0 (steps number context);
  functions = flow.functions ++ function_placed (placing number flow context) ∷ [];
}

-- the graph with the synthetic functions of contexts, in their order; the numbers of their calls go on from this one
abbrev pub extended : ℕ → Flow → List Context → Flow
extended number flow [] = flow
extended number flow (c ∷ cs) = extended (number + length (functions_of c)) (with_context number flow c) cs
