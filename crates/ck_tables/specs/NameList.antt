-- The names of a project by their numbers.
use Rattle.std.specs.Prelude.{◌≡◌, ℕ, List, ◌++◌, slice_get, Some}

-- a number is that of a name with these bytes
abbrev pub IsName : List (List ℕ) → ℕ → List ℕ → Type 0
IsName names i bytes = slice_get names i ≡ Some bytes

-- names with the same bytes have the same number
abbrev pub AreDistinct : List (List ℕ) → Type 0
AreDistinct names = (i j : ℕ) (bytes : List ℕ) → IsName names i bytes → IsName names j bytes → i ≡ j

-- names were added, or none
pub record Extends (old new : List (List ℕ)) : Type 0 where
  pub more : List (List ℕ)
  pub is : new ≡ old ++ more
