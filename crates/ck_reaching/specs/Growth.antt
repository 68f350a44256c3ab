-- What is done to a table of functions by cell. It serves private contracts alone.
use Rattle.std.specs.Prelude.{◌≡◌, ◌<◌, ◌≤◌, ◌⊎◌, ℕ, Bool, true, false, List, length}
use Rattle.std.specs.List.{sum_by}
use Rattle.ck_rows.specs.declared.rows.Rows.{Rows}
use Rattle.ck_reaching.specs.Sets.{Has}
use Rattle.ck_reaching.specs.Joins.{set_room}
use Rattle.ck_reaching.specs.Reached.{set_at, Holds}

-- so many cells, each with a set of so many blocks
pub record IsSized (cells width : ℕ) (table : List (List Rows)) : Type 0 where
  pub count : length table ≡ cells
  pub sets : (c : ℕ) → c < cells → length (set_at table c) ≡ width

pub record KeepsSizes (old new : List (List Rows)) : Type 0 where
  pub count : length new ≡ length old
  pub sets : (c : ℕ) → length (set_at new c) ≡ length (set_at old c)

-- how much all sets of the table can still grow by
unfoldable pub table_room : List (List Rows) → ℕ
table_room table = sum_by set_room table

-- every function stays at its cell
abbrev pub Keeps : List (List Rows) → List (List Rows) → Type 0
Keeps old new = (c f : ℕ) → Holds old c f → Holds new c f

-- the functions of a set were added at a cell, and nothing elsewhere
pub record IsAddition (cell : ℕ) (given : List Rows) (old new : List (List Rows)) (grew : Bool) : Type 0 where
  pub kept : Keeps old new
  pub added : (f : ℕ) → Has given f → Holds new cell f
  pub only : (c f : ℕ) → Holds new c f → Holds old c f ⊎ ((c ≡ cell) × Has given f)
  pub sizes : KeepsSizes old new
  pub same : grew ≡ false → new ≡ old
  pub room : table_room new ≤ table_room old
  pub less_room : grew ≡ true → table_room new < table_room old
