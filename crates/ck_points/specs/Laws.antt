-- Laws about the points and edges of functions, and about their graphs.
use Rattle.std.specs.Prelude.{◌≡◌, ◌≢◌, ◌<◌, ◌≤◌, ◌+◌, ⊤, ℕ, List, length, Contains, AllPairs, slice_get, Some}
use Rattle.ck_graph.specs.Faults.{IsSmall, IsSound}
use Rattle.ck_graph.specs.Flow.{Flow, point_at, point_count}
use Rattle.ck_prog.specs.TypedBodies.{TypedFunction}
use Rattle.ck_points.specs.Functions.{points}
use Rattle.ck_points.specs.Graphs.{Program, IsAt, HasPointAt, IsGraph}
use Rattle.ck_points.specs.Places.{Place, Happening, Passes, Calls, EntersPair, LeavesPair, Ends, Point, Edge}

-- a point of a list is at this place
pub record HasPlace (ps : List Point) (at : Place) : Type 0 where
  pub point : Point
  pub listed : Contains ps point
  pub is : point.place ≡ at

-- an edge of a function leads to a point of the function
abbrev pub EdgesStay : Type 0
EdgesStay =
    (f : TypedFunction) (d : Point) → Contains (points f) d → (e : Edge) → Contains d.edges e →
    HasPlace (points f) e.way.to

-- a call, and an act by which a function is entered or left, has one edge, and the exit none
abbrev pub FitsHappening : Happening → ℕ → Type 0
FitsHappening Passes edges = ⊤
FitsHappening (Calls function) edges = edges ≡ 1
FitsHappening EntersPair edges = edges ≡ 1
FitsHappening LeavesPair edges = edges ≡ 1
FitsHappening Ends edges = edges ≡ 0

abbrev pub EdgesFit : Type 0
EdgesFit = (f : TypedFunction) (d : Point) → Contains (points f) d → FitsHappening d.happening (length d.edges)

-- a point has at most six edges more than its function has points
abbrev pub EdgesAreFew : Type 0
EdgesAreFew = (f : TypedFunction) (d : Point) → Contains (points f) d → length d.edges ≤ length (points f) + 6

-- no two points of a function are at one place
abbrev pub PlacesDiffer : Type 0
PlacesDiffer = (f : TypedFunction) → AllPairs (λ a b. a.place ≢ b.place) (points f)

-- the graph has exactly one point at this place of the function of this number
pub record HasOneNumber (flow : Flow) (i : ℕ) (at : Place) : Type 0 where
  pub there : HasPointAt flow i at
  pub only :
      (m n : ℕ) → m < point_count flow → n < point_count flow → IsAt i at (point_at flow m) →
      IsAt i at (point_at flow n) → m ≡ n

-- in the graph of a project's functions, the place of each point of each function has one number
abbrev pub PlacesAreNumbered : Type 0
PlacesAreNumbered =
    (p : Program) (flow : Flow) → IsGraph p flow → (i : ℕ) (f : TypedFunction) → slice_get p.functions i ≡ Some f →
    (d : Point) → Contains (points f) d → HasOneNumber flow i d.place

-- the graph of a project's functions has no fault, where its numbers fit 32 bits: `checked` takes it
abbrev pub GraphsAreSound : Type 0
GraphsAreSound = (p : Program) (flow : Flow) → IsGraph p flow → IsSmall flow → IsSound flow
