-- A row by its number.
use Rattle.std.specs.Prelude.{◌≡◌, ◌<◌, ℕ, List, length, slice_index_or}

-- the rows have this one at this number
pub record IsRow {X : Type 0} (rows : List X) (i : ℕ) (row : X) : Type 0 where
  pub within : i < length rows
  pub is : (d : X) → slice_index_or rows i d ≡ row
