-- What a solved table says: for each point the pairs of states that walks from the roots reach.
use Rattle.std.specs.Prelude.{◌≡◌, ◌↔◌, ◌<◌, ℕ, List, [], length, map, slice_index_or, Contains}
use Rattle.std.specs.declared.alloc.Global.{Global}
use Rattle.std.specs.declared.vec.Vec.{Vec}
use Rattle.ck_base.specs.declared.spans.PointId.{PointId}
use Rattle.ck_base.specs.declared.states.State.{State}
use Rattle.ck_base.specs.Act.{state_code}
use Rattle.ck_rows.specs.declared.rows.Rows.{Rows}
use Rattle.ck_rows.specs.Relation.{Relates}
use Rattle.ck_graph.specs.declared.entries.Root.{Root}
use Rattle.ck_graph.specs.Flow.{Flow, point_count, function_count}
use Rattle.ck_graph.specs.Steps.{MayEnter}
use Rattle.ck_graph.specs.Summary.{ReachesPair}

-- a table as plain values: the relation of each point and the calls of each function, in the order of their numbers
pub record Summaries : Type 0 where
  pub rows : List Rows
  pub callers : List (List PointId)

-- the calls of a function of this number
unfoldable pub callers_at : List (List PointId) → ℕ → List PointId
callers_at callers function = slice_index_or callers function []

abbrev pub items_of : Vec PointId Global → List PointId
items_of calls = calls.items

-- the lists of calls, as they are in memory, as plain lists
abbrev pub lists_of : List (Vec PointId Global) → List (List PointId)
lists_of callers = map items_of callers

-- for each function, all points that may enter it, and only those, in any order and each maybe more than once
pub record AreCallers (flow : Flow) (callers : List (List PointId)) : Type 0 where
  pub functions : length callers ≡ function_count flow
  pub exactly :
      (function : ℕ) → function < function_count flow →
      (call : PointId) → Contains (callers_at callers function) call ↔ MayEnter flow call.0 function

-- the table was made for this graph
pub record IsMadeFor (flow : Flow) (table : Summaries) : Type 0 where
  pub points : length table.rows ≡ point_count flow
  pub callers : AreCallers flow table.callers

-- what a number that no point has is read as: a relation without a pair
abbrev pub no_rows : Rows
no_rows = record { mask = [] }

-- the relation of a point
unfoldable pub rows_at : List Rows → ℕ → Rows
rows_at table point = slice_index_or table point no_rows

-- the table has no pair
abbrev pub HasNoPairs : List Rows → Type 0
HasNoPairs table = (point a b : ℕ) → Relates (rows_at table point) a b → ⊥

-- a walk from a root reaches a pair of states of these codes, which are the numbers of a table's relations
pub record ReachesCodes (flow : Flow) (roots : List Root) (point a b : ℕ) : Type 0 where
  pub from : State
  pub to : State
  pub from_is : state_code from ≡ a
  pub to_is : state_code to ≡ b
  pub reached : ReachesPair flow roots point from to

-- the table has a pair exactly where a walk reaches it
pub record IsSolution (flow : Flow) (roots : List Root) (table : List Rows) : Type 0 where
  pub whole : length table ≡ point_count flow
  pub exactly : (point a b : ℕ) → point < point_count flow →
      Relates (rows_at table point) a b ↔ ReachesCodes flow roots point a b
