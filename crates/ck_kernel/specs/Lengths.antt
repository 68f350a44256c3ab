-- The rows in groups by the lengths of their names, as the code looks names up. Private contracts alone speak of it.
use Rattle.std.specs.Prelude.{◌≡◌, ℕ, List, [], Bool, false, ◌||◌, nat_eq, codes, length, slice_get, find, position}
use Rattle.std.specs.Prelude.{unwrap_or}
use Rattle.std.specs.List.{starts_with}
use Rattle.std.specs.Option.{option_map_or}
use Rattle.std.specs.Str.{bytes_eq}
use Rattle.ck_kernel.specs.KernelTable.{kernel_table}

-- whether the call of a row has this name
abbrev pub names : ℕ → List ℕ → Bool
names row text = option_map_or (λ c. bytes_eq c.name text) (slice_get kernel_table row) false

-- the rows in the group of a length
abbrev pub of_length : List (List ℕ) → ℕ → List ℕ
of_length groups n = unwrap_or (slice_get groups n) []

-- among these rows, looking for a name of this length finds what looking in the table does
abbrev pub FindsRowsOf : ℕ → List ℕ → Type 0
FindsRowsOf n rows =
    (text : List ℕ) → length text ≡ n →
    find (λ row. names row text) rows ≡ position (λ c. bytes_eq c.name text) kernel_table

-- the group of each length is so
pub record FindsRows (groups : List (List ℕ)) : Type 0 where
  pub of : (n : ℕ) → FindsRowsOf n (of_length groups n)

-- how the names of the table begin
abbrev pub begins_like_one : List ℕ → Bool
begins_like_one text = starts_with nat_eq text (codes "ch") || starts_with nat_eq text (codes "CH_")
