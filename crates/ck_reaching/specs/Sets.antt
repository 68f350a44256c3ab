-- Sets of functions as blocks of 256 bits: the function f is bit f % 16 of mask f / 16 % 16 of block f / 256.
use Rattle.std.specs.Prelude.{ℕ, List, [], ◌/◌, ◌%◌, slice_index_or}
use Rattle.ck_rows.specs.declared.rows.Rows.{Rows}
use Rattle.ck_rows.specs.Relation.{Relates}

-- what a number that no block has is read as: a block without a bit
abbrev pub no_block : Rows
no_block = record { mask = [] }

unfoldable pub block_at : List Rows → ℕ → Rows
block_at set number = slice_index_or set number no_block

-- the function is in the set
pub record Has (set : List Rows) (f : ℕ) : Type 0 where
  pub bit : Relates (block_at set (f / 16 / 16)) (f / 16 % 16) (f % 16)
