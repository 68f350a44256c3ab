-- How much the masks of a relation can still grow by. A loop that only adds pairs ends by it.
use Rattle.std.specs.Prelude.{ℕ, ◌-◌}
use Rattle.std.specs.List.{sum_by}
use Rattle.ck_rows.specs.declared.rows.Rows.{Rows}

abbrev pub mask_room : ℕ → ℕ
mask_room mask = 65535 - mask

unfoldable pub room : Rows → ℕ
room rows = sum_by mask_room rows.mask
