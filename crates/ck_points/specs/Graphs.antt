-- Which graph is that of a project's functions (docs/FLOW.md). Its points are numbered by function, path, orders and
-- side, and stand for exactly the points of the functions, with their kinds, sites and edges. Call targets are put in
-- later.
use Rattle.std.specs.Prelude.{◌≡◌, ◌<◌, ℕ, ◌+◌, nat_lt, List, [], ◌∷◌, length, take, filter, position}
use Rattle.std.specs.Prelude.{slice_get, slice_index_or, Contains, AllPairs, Option, Some, None, unwrap_or}
use Rattle.std.specs.Prelude.{if◌then◌else◌}
use Rattle.std.specs.List.{AllZip}
use Rattle.std.specs.Str.{bytes_eq}
use Rattle.ck_base.specs.declared.ops.Op.{Op}
use Rattle.ck_base.specs.declared.ops.Op.TheVariants.{Neutral, PairEnter, PairLeft}
use Rattle.ck_base.specs.declared.refusals.Spot.TheVariants.{At}
use Rattle.ck_graph.specs.Flow as graph
use Rattle.ck_graph.specs.Flow.{Flow, point_at, function_at, point_count, function_count}
use Rattle.ck_graph.specs.declared.points.ActName.{ActName}
use Rattle.ck_graph.specs.declared.points.ActName.TheVariants.{Kernel, Outside, Return, Entry}
use Rattle.ck_graph.specs.declared.points.Edge.{Edge as MadeEdge}
use Rattle.ck_graph.specs.declared.points.PointKind.{PointKind}
use Rattle.ck_graph.specs.declared.points.PointKind.TheVariants.{Plain, Act, Call, Exit}
use Rattle.ck_kernel.specs.KernelTable.{KernelCall, call_at}
use Rattle.ck_prog.specs.Acts.{Project, act_of}
use Rattle.ck_prog.specs.Calls.{numbered_calls, is_numbered, calls_of_function}
use Rattle.ck_prog.specs.PathOrder.{IsBefore}
use Rattle.ck_prog.specs.Paths.{Path}
use Rattle.ck_prog.specs.TypedBodies.{TypedFunction}
use Rattle.ck_points.specs.Functions.{points, entry, exit}
use Rattle.ck_points.specs.Places.{Place, side_number, Happening, Passes, Calls, EntersPair, LeavesPair, Ends}
use Rattle.ck_points.specs.Places.{Point, Edge}

-- what graphs are made from: all declarations and the settings' functions, the ops of these, and the functions with
-- bodies in the order of their numbers
pub record Program : Type 0 where
  pub project : Project
  pub ops : List Op
  pub functions : List TypedFunction

-- kinds of points ----------------------------------------------------------------------------------------------------

abbrev pub op_in_row : Option KernelCall → Op
op_in_row None = Neutral
op_in_row (Some row) = row.op

-- the op of a call that is an act
abbrev pub op_of : List Op → ActName → Op
op_of ops (Kernel row) = op_in_row (call_at row)
op_of ops (Outside n) = slice_index_or ops n Neutral
op_of ops _ = Neutral

-- the number of the call at a path of the function of this number, among the calls of the project that are no acts
abbrev pub number_of_call : Program → ℕ → TypedFunction → Path → ℕ
number_of_call p i f π =
    length (numbered_calls p.project (take i p.functions))
    + unwrap_or (position (λ c. bytes_eq c.path π) (filter (is_numbered p.project) (calls_of_function f))) 0

abbrev pub kind_of_call : Program → Option ActName → ℕ → PointKind
kind_of_call p (Some act) number = Act (op_of p.ops act) act
kind_of_call p None number = Call number

abbrev pub kind_of : Program → ℕ → TypedFunction → Path → Happening → PointKind
kind_of p i f π Passes = Plain
kind_of p i f π (Calls function) = kind_of_call p (act_of p.project function) (number_of_call p i f π)
kind_of p i f π EntersPair = Act PairEnter Entry
kind_of p i f π LeavesPair = Act PairLeft Return
kind_of p i f π Ends = Exit

-- points and edges of a graph ----------------------------------------------------------------------------------------

-- a made point is at this place of the function of this number
pub record IsAt (i : ℕ) (at : Place) (made : graph.Point) : Type 0 where
  pub function : made.function.0 ≡ i
  pub path : made.path ≡ at.path
  pub orders : made.order ≡ at.orders
  pub side : made.side ≡ side_number at.side

-- a made edge is this one: it leads to the point that is at the edge's place
pub record IsEdge (flow : Flow) (i : ℕ) (e : Edge) (made : MadeEdge) : Type 0 where
  pub label : made.label ≡ e.label
  pub there : made.to.0 < point_count flow
  pub to : IsAt i e.way.to (point_at flow made.to.0)

-- a made point is this one of the function of this number, with its edges in their order
pub record IsPoint (p : Program) (flow : Flow) (i : ℕ) (f : TypedFunction) (d : Point) (made : graph.Point) : Type 0
  where
    pub at : IsAt i d.place made
    pub kind : made.kind ≡ kind_of p i f d.place.path d.happening
    pub site : made.site ≡ At d.site.span
    pub edges : AllZip (IsEdge flow i) d.edges made.edges
    pub targets : made.targets ≡ []

-- a made point is some point of a function
pub record IsSomePoint (p : Program) (flow : Flow) (made : graph.Point) : Type 0 where
  pub number : ℕ
  pub function : TypedFunction
  pub numbered : slice_get p.functions number ≡ Some function
  pub point : Point
  pub listed : Contains (points function) point
  pub is : IsPoint p flow number function point made

-- the graph has a point at this place of the function of this number
pub record HasPointAt (flow : Flow) (i : ℕ) (at : Place) : Type 0 where
  pub number : ℕ
  pub there : number < point_count flow
  pub is : IsAt i at (point_at flow number)

-- the order of numbers -----------------------------------------------------------------------------------------------

-- by function, path, orders and side, a list before those that begin with it
pub data ComesBefore (a b : graph.Point) : Type 0 where
  ByFunction : a.function.0 < b.function.0 → ComesBefore a b
  ByPath : a.function.0 ≡ b.function.0 → IsBefore a.path b.path → ComesBefore a b
  ByOrders : a.function.0 ≡ b.function.0 → a.path ≡ b.path → IsBefore a.order b.order → ComesBefore a b
  BySide :
      a.function.0 ≡ b.function.0 → a.path ≡ b.path → a.order ≡ b.order → a.side < b.side → ComesBefore a b

-- graphs -------------------------------------------------------------------------------------------------------------

-- a function's first point and its exit
pub record HasEnds (flow : Flow) (i : ℕ) : Type 0 where
  pub first_there : (function_at flow i).first.0 < point_count flow
  pub first : IsAt i entry (point_at flow (function_at flow i).first.0)
  pub exit_there : (function_at flow i).exit.0 < point_count flow
  pub exit : IsAt i exit (point_at flow (function_at flow i).exit.0)

pub record IsGraph (p : Program) (flow : Flow) : Type 0 where
  -- each point comes before all those with greater numbers, so no two are at one place
  pub ordered : AllPairs ComesBefore flow.points
  -- each point is one of a function, and each of a function is there
  pub own : (made : graph.Point) → Contains flow.points made → IsSomePoint p flow made
  pub whole :
      (i : ℕ) (f : TypedFunction) → slice_get p.functions i ≡ Some f → (d : Point) → Contains (points f) d →
      HasPointAt flow i d.place
  pub functions : function_count flow ≡ length p.functions
  pub ends : (i : ℕ) → i < length p.functions → HasEnds flow i

-- the limit ----------------------------------------------------------------------------------------------------------

-- a project with more points is refused (U20)
abbrev pub most_points : ℕ
most_points = 400000

-- the function with which the sum of points passes the limit, where so many are before these: the refusal is at its
-- name
abbrev pub passing_from : ℕ → List TypedFunction → Option TypedFunction
passing_from sum [] = None
passing_from sum (f ∷ fs) =
    let more = sum + length (points f) in
    if nat_lt most_points more then Some f else passing_from more fs

abbrev pub passing_limit : List TypedFunction → Option TypedFunction
passing_limit fs = passing_from 0 fs
