-- Numbers that are meant as floating constants (C99 6.4.4.2).
use Rattle.std.specs.Prelude.{ℕ, Bool, ◌||◌, List, if◌then◌else◌}
use Rattle.std.specs.List.{list_any}
use Rattle.ck_base.specs.Characters.{◌∈◌}
use Rattle.ck_base.specs.IntegerConstants.{begins_hexadecimal}

abbrev pub is_decimal_exponent : ℕ → Bool
is_decimal_exponent b = b ∈ "eE"

abbrev pub is_binary_exponent : ℕ → Bool
is_binary_exponent b = b ∈ "pP"

abbrev pub is_point : ℕ → Bool
is_point b = b ∈ "."

-- it has a point, or an exponent of its base
unfoldable pub is_floating : List ℕ → Bool
is_floating text =
    list_any is_point text
    || (if begins_hexadecimal text then list_any is_binary_exponent text else list_any is_decimal_exponent text)
