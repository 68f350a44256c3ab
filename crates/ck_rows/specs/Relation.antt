-- Relations on sixteen things, numbered from 0. A `Rows` stands for the list of the pairs (i, j) for which bit j of
-- the mask i is set. What its operations do is said of lists of pairs, one pair after the other.
use Rattle.std.specs.Prelude.{◌≡◌, ◌==◌, ◌<◌, ◌↔◌, ℕ, List, map, slice_index, Contains}
use Rattle.std.specs.List.{flat_map, filter, range_with_len}
use Rattle.std.specs.Int.{bit_at}
use Rattle.ck_rows.specs.declared.rows.Rows.{Rows}

abbrev pub Pair : Type 0
Pair = ℕ × ℕ

abbrev pub pair : ℕ → ℕ → Pair
pair i j = (i, j)

-- the relation of sixteen masks
abbrev pub rows_of : List ℕ → Rows
rows_of masks = record { mask = masks }

-- the numbers 0 to 15
unfoldable pub sixteen : List ℕ
sixteen = range_with_len 0 16

-- the pairs of one mask: (i, j) for each of its bits j
unfoldable pub pairs_of_mask : ℕ → ℕ → List Pair
pairs_of_mask i mask = map (pair i) (filter (λ j. bit_at mask j == 1) sixteen)

-- the pairs of all masks
unfoldable pub pairs : Rows → List Pair
pairs rows = flat_map (λ i. pairs_of_mask i (slice_index rows.mask i)) sixteen

-- (i, k) for each (i, j) of the first list and each (j, k) of the second
unfoldable pub composition : List Pair → List Pair → List Pair
composition first second = flat_map (λ p. map (λ q. pair p.0 q.1) (filter (λ q. p.1 == q.0) second)) first

-- the same pairs stand in both lists
abbrev pub HaveSamePairs : List Pair → List Pair → Type 0
HaveSamePairs xs ys = (p : Pair) → Contains xs p ↔ Contains ys p

-- a pair stands in the later list and not in the earlier one
abbrev pub HasNewPair : List Pair → List Pair → Type 0
HasNewPair earlier later = (p : Pair) × Contains later p × (Contains earlier p → ⊥)

-- the pair (i, j) is in the relation
pub record Relates (rows : Rows) (i j : ℕ) : Type 0 where
  pub from_below : i < 16
  pub to_below : j < 16
  pub bit : bit_at (slice_index rows.mask i) j ≡ 1
