-- What the points of a graph let a context do: take an edge, act, enter a function.
use Rattle.std.specs.Prelude.{◌≡◌, ℕ, true, Some, slice_get}
use Rattle.ck_base.specs.declared.ops.Op.{Op}
use Rattle.ck_base.specs.declared.states.State.{State}
use Rattle.ck_base.specs.declared.states.Outcome.TheVariants.{Next}
use Rattle.ck_base.specs.Act.{act}
use Rattle.ck_graph.specs.declared.points.Edge.{Edge}
use Rattle.ck_graph.specs.declared.points.ActName.{ActName}
use Rattle.ck_graph.specs.declared.points.PointKind.{PointKind}
use Rattle.ck_graph.specs.declared.points.PointKind.TheVariants.{Act, Call}
use Rattle.ck_graph.specs.Flow.{Flow, point_at, function_at}
use Rattle.ck_graph.specs.Walk.{names_target}

abbrev pub kind_at : Flow → ℕ → PointKind
kind_at flow point = (point_at flow point).kind

abbrev pub first_of : Flow → ℕ → ℕ
first_of flow function = (function_at flow function).first.0

abbrev pub exit_of : Flow → ℕ → ℕ
exit_of flow function = (function_at flow function).exit.0

-- the point has this edge, as its k-th
abbrev pub HasEdge : Flow → ℕ → ℕ → Edge → Type 0
HasEdge flow point k edge = slice_get (point_at flow point).edges k ≡ Some edge

-- the point is an act that leads from one state to another
pub record Leads (flow : Flow) (point : ℕ) (state next : State) : Type 0 where
  pub op : Op
  pub name : ActName
  pub is_act : kind_at flow point ≡ Act op name
  pub acts : act op state ≡ Next next

-- the point is a call
abbrev pub IsCall : Flow → ℕ → Type 0
IsCall flow point = (call : ℕ) × (kind_at flow point ≡ Call call)

-- the point is a call that may enter this function
pub record MayEnter (flow : Flow) (point target : ℕ) : Type 0 where
  pub call : ℕ
  pub is_call : kind_at flow point ≡ Call call
  pub named : names_target (point_at flow point).targets target ≡ true
