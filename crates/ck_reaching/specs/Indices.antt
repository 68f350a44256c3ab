-- Lists of numbers, one for each cell. It serves private contracts alone.
use Rattle.std.specs.Prelude.{◌≡◌, ◌↔◌, ◌⊎◌, ℕ, List, [], length, map, slice_index_or, Contains}
use Rattle.std.specs.declared.alloc.Global.{Global}
use Rattle.std.specs.declared.vec.Vec.{Vec}

unfoldable pub numbers_at : List (List ℕ) → ℕ → List ℕ
numbers_at lists at = slice_index_or lists at []

abbrev pub items_of : Vec ℕ Global → List ℕ
items_of numbers = numbers.items

-- the lists, as they are in memory, as plain lists
abbrev pub lists_of : List (Vec ℕ Global) → List (List ℕ)
lists_of lists = map items_of lists

-- a number was added to one list, and to no other
pub record AddsNumber (at number : ℕ) (old new : List (List ℕ)) : Type 0 where
  pub size : length new ≡ length old
  pub exactly : (k n : ℕ) →
      Contains (numbers_at new k) n ↔ (Contains (numbers_at old k) n ⊎ ((k ≡ at) × (n ≡ number)))
