-- What a part of the search does to the list of places. It serves private contracts alone.
use Rattle.std.specs.Prelude.{◌≡◌, ◌≤◌, ◌<◌, ◌↔◌, ℕ, List, length, Contains}
use Rattle.ck_base.specs.declared.states.State.{State}
use Rattle.ck_base.specs.declared.spans.PointId.{PointId}
use Rattle.ck_base.specs.declared.ops.Op.{Op}
use Rattle.ck_graph.specs.declared.points.ActName.{ActName}
use Rattle.ck_graph.specs.declared.points.Edge.{Edge}
use Rattle.ck_graph.specs.declared.points.PointKind.TheVariants.{Plain, Act, Exit}
use Rattle.ck_graph.specs.declared.entries.Root.{Root}
use Rattle.ck_graph.specs.Flow.{Flow, point_count}
use Rattle.ck_graph.specs.Steps.{HasEdge, MayEnter, Leads, kind_at, first_of, exit_of}
use Rattle.ck_segments.specs.Follows.{TakesEdge}
use Rattle.ck_segments.specs.Runs.{StateLeads}
use Rattle.ck_paths.specs.declared.found.Place.{Place}
use Rattle.ck_paths.specs.Found.{IsAt, HasPlace, AreLinked, Extends}
use Rattle.ck_paths.specs.Justified.{AreJustified, function_of}

-- the places are linked, at the points of the graph
pub record IsReady (flow : Flow) (places : List Place) (last : List ℕ) : Type 0 where
  pub linked : AreLinked places last
  pub size : length last ≡ point_count flow

-- the list grew by justified places, and each place keeps its number
pub record Grows (flow : Flow) (old new : List Place) (new_last : List ℕ) : Type 0 where
  pub ready : IsReady flow new new_last
  pub kept : Extends old new
  pub justified : (roots : List Root) → AreJustified flow roots old → AreJustified flow roots new

-- a place of a point that isn't a call goes along each of its edges, into this state
abbrev pub LeadsOn : Flow → Place → State → Type 0
LeadsOn flow place next =
    (k : ℕ) (edge : Edge) → HasEdge flow place.point.0 k edge →
    TakesEdge (kind_at flow place.point.0) k × StateLeads (kind_at flow place.point.0) place.to next

-- the pairs to which the edges of a place lead are there
abbrev pub HasNext : Flow → List Place → Place → State → Type 0
HasNext flow places place next =
    (k : ℕ) (edge : Edge) → HasEdge flow place.point.0 k edge → HasPlace places edge.to.0 place.from next

-- the pair to which the edge of a call leads is there
abbrev pub HasReturn : Flow → List Place → Place → State → Type 0
HasReturn flow places calls to =
    (edge : Edge) → HasEdge flow calls.point.0 0 edge → HasPlace places edge.to.0 calls.from to

-- a call has returned from each earlier place, from this number on, at the exit of its function
abbrev pub HasExits : Flow → List Place → List Place → Place → ℕ → ℕ → Type 0
HasExits flow old new calls exit link =
    (x : ℕ) (ends : Place) → IsAt old x ends → ends.point.0 ≡ exit → link ≤ x → ends.from ≡ calls.to →
    HasReturn flow new calls ends.to

-- an exit has returned to each earlier place, from this number on, at a point that calls its function
abbrev pub HasCallers : Flow → List Place → List Place → Place → ℕ → ℕ → Type 0
HasCallers flow old new ends caller link =
    (n : ℕ) (calls : Place) → IsAt old n calls → calls.point.0 ≡ caller → link ≤ n → ends.from ≡ calls.to →
    HasReturn flow new calls ends.to

-- a call has entered a function, and returned from each earlier place at its exit
pub record HasCalled (flow : Flow) (old new : List Place) (calls : Place) (target : ℕ) : Type 0 where
  pub inside : HasPlace new (first_of flow target) calls.to calls.to
  pub back : HasExits flow old new calls (exit_of flow target) 0

-- what a place leads to is there
pub record HasPassed (flow : Flow) (old new : List Place) (place : Place) : Type 0 where
  pub along : kind_at flow place.point.0 ≡ Plain → HasNext flow new place place.to
  pub act : (next : State) → Leads flow place.point.0 place.to next → HasNext flow new place next
  pub call : (target : ℕ) → MayEnter flow place.point.0 target → HasCalled flow old new place target
  pub back :
      kind_at flow place.point.0 ≡ Exit → (caller : ℕ) → MayEnter flow caller (function_of flow place) →
      HasCallers flow old new place caller 0

-- these are all points that may enter a function
pub record AreCallersOf (flow : Flow) (target : ℕ) (callers : List PointId) : Type 0 where
  pub exactly : (call : PointId) → Contains callers call ↔ MayEnter flow call.0 target

-- the point is an act of this op
abbrev pub IsActOf : Flow → ℕ → Op → Type 0
IsActOf flow p op = (name : ActName) × (kind_at flow p ≡ Act op name)

-- the places of lower numbers have led on, and calls have returned from exits where both are of lower numbers
pub record IsClosedBelow (flow : Flow) (places : List Place) (n : ℕ) : Type 0 where
  pub along :
      (m : ℕ) (place : Place) → m < n → IsAt places m place → kind_at flow place.point.0 ≡ Plain →
      HasNext flow places place place.to
  pub act :
      (m : ℕ) (place : Place) → m < n → IsAt places m place → (next : State) →
      Leads flow place.point.0 place.to next → HasNext flow places place next
  pub inside :
      (m : ℕ) (place : Place) → m < n → IsAt places m place → (target : ℕ) → MayEnter flow place.point.0 target →
      HasPlace places (first_of flow target) place.to place.to
  pub back :
      (m x : ℕ) (calls ends : Place) → m < n → x < n → IsAt places m calls → IsAt places x ends →
      (target : ℕ) → MayEnter flow calls.point.0 target → ends.point.0 ≡ exit_of flow target →
      ends.from ≡ calls.to → HasReturn flow places calls ends.to
