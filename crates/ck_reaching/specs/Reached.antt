-- A table of the functions that reach each cell, and what it is to say.
use Rattle.std.specs.Prelude.{◌<◌, ◌↔◌, ℕ, List, [], slice_index_or, Contains}
use Rattle.std.specs.List.{AllPairs}
use Rattle.ck_base.specs.declared.spans.FnId.{FnId}
use Rattle.ck_rows.specs.declared.rows.Rows.{Rows}
use Rattle.ck_reaching.specs.Sets.{Has}
use Rattle.ck_reaching.specs.Rules.{System}
use Rattle.ck_reaching.specs.Reaching.{Reaches, IsTarget}
use Rattle.ck_reaching.specs.declared.rules.Call.{Call}

-- the functions of a cell
unfoldable pub set_at : List (List Rows) → ℕ → List Rows
set_at table cell = slice_index_or table cell []

-- the table has a function at a cell
abbrev pub Holds : List (List Rows) → ℕ → ℕ → Type 0
Holds table cell f = Has (set_at table cell) f

-- the table has a function at a cell exactly where the function reaches it
abbrev pub IsSolution : System → List (List Rows) → Type 0
IsSolution s table = (cell f : ℕ) → Holds table cell f ↔ Reaches s cell f

-- the targets of a call, in the order of their numbers
pub record AreTargets (s : System) (call : Call) (targets : List FnId) : Type 0 where
  pub ordered : AllPairs (λ f g. f.0 < g.0) targets
  pub exactly : (f : FnId) → Contains targets f ↔ IsTarget s call f.0
