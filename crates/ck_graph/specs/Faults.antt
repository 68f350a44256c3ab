-- What can be wrong with the parts of a graph, and a graph in which nothing is.
use Rattle.std.specs.Prelude.{◌≡◌, ◌≢◌, ◌≤◌, ◌<◌, ◌^◌, ◌⊎◌, ⊤, ℕ, length, All, Contains}
use Rattle.ck_base.specs.declared.spans.FnId.{FnId}
use Rattle.ck_graph.specs.declared.points.Edge.{Edge}
use Rattle.ck_graph.specs.declared.points.PointKind.{PointKind}
use Rattle.ck_graph.specs.declared.points.PointKind.TheVariants.{Plain, Act, Call, Exit}
use Rattle.ck_graph.specs.Flow.{Flow, Point, point_at, function_at, point_count, function_count}

-- a number of a point of this function
pub record IsPointOf (flow : Flow) (point function : ℕ) : Type 0 where
  pub there : point < point_count flow
  pub own : (point_at flow point).function.0 ≡ function

-- the number of a point is out of range, or the point is of another function
abbrev pub IsNoPointOf : Flow → ℕ → ℕ → Type 0
IsNoPointOf flow point function = (point_count flow ≤ point) ⊎ ((point_at flow point).function.0 ≢ function)

-- an act or a call has just one edge, and an exit none
abbrev pub FitsKind : PointKind → ℕ → Type 0
FitsKind Plain edges = ⊤
FitsKind (Act op name) edges = edges ≡ 1
FitsKind (Call call) edges = edges ≡ 1
FitsKind Exit edges = edges ≡ 0

-- a point has a fault
pub data HasPointFault (flow : Flow) (number : ℕ) (point : Point) : Type 0 where
  function_out_of_range : function_count flow ≤ point.function.0 → HasPointFault flow number point
  target_out_of_range :
      (target : FnId) → Contains point.targets target → function_count flow ≤ target.0 →
      HasPointFault flow number point
  edge_leaves :
      (edge : Edge) → Contains point.edges edge → IsNoPointOf flow edge.to.0 point.function.0 →
      HasPointFault flow number point
  edges_do_not_fit : (FitsKind point.kind (length point.edges) → ⊥) → HasPointFault flow number point
  exit_not_named :
      point.kind ≡ Exit → (function_at flow point.function.0).exit.0 ≢ number → HasPointFault flow number point

-- a function has a fault
pub data HasFunctionFault (flow : Flow) (number : ℕ) : Type 0 where
  first_elsewhere : IsNoPointOf flow (function_at flow number).first.0 number → HasFunctionFault flow number
  exit_elsewhere : IsNoPointOf flow (function_at flow number).exit.0 number → HasFunctionFault flow number
  exit_of_another_kind : (point_at flow (function_at flow number).exit.0).kind ≢ Exit → HasFunctionFault flow number

-- what `checked` refuses
pub data HasFault (flow : Flow) : Type 0 where
  at_point :
      (number : ℕ) → number < point_count flow → HasPointFault flow number (point_at flow number) → HasFault flow
  at_function : (number : ℕ) → number < function_count flow → HasFunctionFault flow number → HasFault flow

pub record IsPointSound (flow : Flow) (number : ℕ) (point : Point) : Type 0 where
  pub function : point.function.0 < function_count flow
  pub targets : All (λ target. target.0 < function_count flow) point.targets
  pub edges : All (λ edge. IsPointOf flow edge.to.0 point.function.0) point.edges
  pub fits : FitsKind point.kind (length point.edges)
  pub exit : point.kind ≡ Exit → (function_at flow point.function.0).exit.0 ≡ number

pub record IsFunctionSound (flow : Flow) (number : ℕ) : Type 0 where
  pub first : IsPointOf flow (function_at flow number).first.0 number
  pub exit : IsPointOf flow (function_at flow number).exit.0 number
  pub ends : (point_at flow (function_at flow number).exit.0).kind ≡ Exit

-- the numbers of points, of functions and of a point's edges fit 32 bits
pub record IsSmall (flow : Flow) : Type 0 where
  pub points : point_count flow < 2 ^ 32
  pub functions : function_count flow < 2 ^ 32
  pub edges : (number : ℕ) → number < point_count flow → length (point_at flow number).edges < 2 ^ 32

-- a graph has no fault
pub record IsSound (flow : Flow) : Type 0 where
  pub points : (number : ℕ) → number < point_count flow → IsPointSound flow number (point_at flow number)
  pub functions : (number : ℕ) → number < function_count flow → IsFunctionSound flow number
  pub small : IsSmall flow
