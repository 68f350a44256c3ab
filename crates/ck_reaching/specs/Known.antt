-- What is known so far, as it grows. It serves private contracts alone.
use Rattle.std.specs.Prelude.{◌≡◌, ◌+◌, ◌≤◌, ◌⊎◌, ℕ, List, length}
use Rattle.ck_rows.specs.declared.rows.Rows.{Rows}
use Rattle.ck_reaching.specs.declared.known.Known.{Known}
use Rattle.ck_reaching.specs.Sets.{Has}
use Rattle.ck_reaching.specs.Reached.{Holds}
use Rattle.ck_reaching.specs.Growth.{Keeps, KeepsSizes, table_room}
use Rattle.ck_reaching.specs.Listing.{IsListed, size_of}

-- how long looks can still go on
abbrev pub work_left : Known → ℕ
work_left k = table_room k.reached + length k.listed.stack

-- every function stays at its cell and every listed cell stays listed, and a cell that has a new function is listed
pub record Gains (old new : Known) : Type 0 where
  pub kept : Keeps old.reached new.reached
  pub listed : (c f : ℕ) → Holds new.reached c f → Holds old.reached c f ⊎ IsListed new.listed c
  pub stays : (c : ℕ) → IsListed old.listed c → IsListed new.listed c
  pub left : work_left new ≤ work_left old
  pub sizes : KeepsSizes old.reached new.reached
  pub size : size_of new.listed ≡ size_of old.listed

-- the functions of a set were added at a cell, and nothing elsewhere
pub record IsGain (cell : ℕ) (given : List Rows) (old new : Known) : Type 0 where
  pub gains : Gains old new
  pub added : (f : ℕ) → Has given f → Holds new.reached cell f
  pub only : (c f : ℕ) → Holds new.reached c f → Holds old.reached c f ⊎ ((c ≡ cell) × Has given f)
