-- What adding one set to another does, block by block. It serves private contracts alone.
use Rattle.std.specs.Prelude.{◌≡◌, ◌<◌, ◌≤◌, ◌⊎◌, ℕ, Bool, true, false, List, length}
use Rattle.std.specs.List.{sum_by}
use Rattle.ck_rows.specs.declared.rows.Rows.{Rows}
use Rattle.ck_rows.specs.Relation.{Relates}
use Rattle.ck_rows.specs.Room.{room}
use Rattle.ck_reaching.specs.Sets.{Has}

-- how much the masks of a set can still grow by
unfoldable pub set_room : List Rows → ℕ
set_room set = sum_by room set

-- no function from a number on and before another is in the set
abbrev pub IsClearBetween : List Rows → ℕ → ℕ → Type 0
IsClearBetween set from end = (f : ℕ) → from ≤ f → f < end → Has set f → ⊥

-- what a union does to one block
pub record IsUnion (old given new : Rows) (grew : Bool) : Type 0 where
  pub kept : (i j : ℕ) → Relates old i j → Relates new i j
  pub added : (i j : ℕ) → Relates given i j → Relates new i j
  pub only : (i j : ℕ) → Relates new i j → Relates old i j ⊎ Relates given i j
  pub same : grew ≡ false → new ≡ old
  pub room_left : room new ≤ room old
  pub less_left : grew ≡ true → room new < room old

-- the functions of `given` were added, and no other
pub record IsJoin (old given new : List Rows) (grew : Bool) : Type 0 where
  pub kept : (f : ℕ) → Has old f → Has new f
  pub added : (f : ℕ) → Has given f → Has new f
  pub only : (f : ℕ) → Has new f → Has old f ⊎ Has given f
  pub size : length new ≡ length old
  pub same : grew ≡ false → new ≡ old
  pub room : set_room new ≤ set_room old
  pub less_room : grew ≡ true → set_room new < set_room old
