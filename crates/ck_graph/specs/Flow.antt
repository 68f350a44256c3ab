-- A flow graph as plain lists: points and functions, each known by its number, which is its place in its list.
use Rattle.std.specs.Prelude.{ℕ, List, [], map, length, slice_index_or}
use Rattle.ck_base.specs.declared.spans.FnId.{FnId}
use Rattle.ck_base.specs.declared.refusals.Spot.{Spot}
use Rattle.ck_base.specs.declared.refusals.Spot.TheVariants.{Nowhere}
use Rattle.ck_graph.specs.declared.points.Edge.{Edge}
use Rattle.ck_graph.specs.declared.points.PointKind.{PointKind}
use Rattle.ck_graph.specs.declared.points.PointKind.TheVariants.{Plain}
use Rattle.ck_graph.specs.declared.points.PointPart.{PointPart}
use Rattle.ck_graph.specs.declared.points.FunctionPart.{FunctionPart}
use Rattle.ck_graph.specs.declared.points.Parts.{Parts}

pub record Point : Type 0 where
  pub kind : PointKind
  pub function : FnId
  pub site : Spot
  pub path : List ℕ
  pub order : List ℕ
  pub side : ℕ
  pub edges : List Edge
  pub targets : List FnId

pub record Flow : Type 0 where
  pub points : List Point
  pub functions : List FunctionPart

abbrev pub point_of : PointPart → Point
point_of part = record {
  kind = part.kind;
  function = part.function;
  site = part.site;
  path = part.path.items;
  order = part.order.items;
  side = part.side;
  edges = part.edges.items;
  targets = part.targets.items;
}

-- the graph of which these are the parts
abbrev pub flow_of : Parts → Flow
flow_of parts = record { points = map point_of parts.points.items; functions = parts.functions.items }

abbrev pub point_count : Flow → ℕ
point_count flow = length flow.points

abbrev pub function_count : Flow → ℕ
function_count flow = length flow.functions

-- what a number that no point has is read as: a plain point without edges
abbrev pub no_point : Point
no_point = record {
  kind = Plain;
  function = record { 0 = 0 };
  site = Nowhere;
  path = [];
  order = [];
  side = 0;
  edges = [];
  targets = [];
}

abbrev pub no_function : FunctionPart
no_function = record { first = record { 0 = 0 }; exit = record { 0 = 0 } }

-- the point of a number
unfoldable pub point_at : Flow → ℕ → Point
point_at flow number = slice_index_or flow.points number no_point

-- the function of a number
unfoldable pub function_at : Flow → ℕ → FunctionPart
function_at flow number = slice_index_or flow.functions number no_function
