-- Integer constants (C99 6.4.4.1), by their bytes: a prefix that says the base, digits of it, and a suffix. The value
-- is
-- the sum of the digits, each times the power of the base that belongs to its place.
use Rattle.std.specs.Prelude.{ℕ, ◌+◌, ◌*◌, ◌^◌, Bool, ◌||◌, ◌&&◌, not, ◌==◌, nat_lt, List, [], ◌∷◌, length, take, drop}
use Rattle.std.specs.Prelude.{codes, slice_index, if◌then◌else◌}
use Rattle.std.specs.List.{list_any, prefix_len}
use Rattle.std.specs.Str.{bytes_eq}
use Rattle.ck_base.specs.Characters.{◌∈◌, ◌∈range◌, ◌after◌, is_digit, is_octal_digit, is_hexadecimal_digit}

-- the digits of base 8, 16 and 10
abbrev pub is_digit_of : ℕ → ℕ → Bool
is_digit_of base b =
    if base == 8 then is_octal_digit b
    else if base == 16 then is_hexadecimal_digit b
    else is_digit b

-- the value of a digit of any base up to 16
abbrev pub digit_value : ℕ → ℕ
digit_value b =
    if is_digit b then b after "0"
    else if b ∈range "af" then b after "a" + 10
    else b after "A" + 10

abbrev pub value_of : ℕ → List ℕ → ℕ
value_of base [] = 0
value_of base (b ∷ digits) = digit_value b * base ^ length digits + value_of base digits

-- `0x` and `0X` are hexadecimal, any other text that begins with `0` is octal
abbrev pub begins_hexadecimal : List ℕ → Bool
begins_hexadecimal text = slice_index text 0 ∈ "0" && slice_index text 1 ∈ "xX"

abbrev pub base_of : List ℕ → ℕ
base_of text =
    if begins_hexadecimal text then 16
    else if slice_index text 0 ∈ "0" then 8
    else 10

-- the constant without its prefix
abbrev pub after_prefix : ℕ → List ℕ → List ℕ
after_prefix base text = if base == 16 then drop 2 text else text

abbrev pub digits_of : ℕ → List ℕ → List ℕ
digits_of base text = take (prefix_len (is_digit_of base) (after_prefix base text)) (after_prefix base text)

abbrev pub suffix_of : ℕ → List ℕ → List ℕ
suffix_of base text = drop (prefix_len (is_digit_of base) (after_prefix base text)) (after_prefix base text)

abbrev pub unsigned_suffixes : List (List ℕ)
unsigned_suffixes =
    codes "u" ∷ codes "U" ∷ codes "ul" ∷ codes "uL" ∷ codes "Ul" ∷ codes "UL" ∷ codes "ull" ∷ codes "uLL" ∷ codes "Ull"
    ∷ codes "ULL" ∷ codes "lu" ∷ codes "lU" ∷ codes "Lu" ∷ codes "LU" ∷ codes "llu" ∷ codes "llU" ∷ codes "LLu"
    ∷ codes "LLU" ∷ []

abbrev pub other_suffixes : List (List ℕ)
other_suffixes = [] ∷ codes "l" ∷ codes "L" ∷ codes "ll" ∷ codes "LL" ∷ []

abbrev pub is_unsigned_suffix : List ℕ → Bool
is_unsigned_suffix suffix = list_any (bytes_eq suffix) unsigned_suffixes

abbrev pub is_suffix : List ℕ → Bool
is_suffix suffix = is_unsigned_suffix suffix || list_any (bytes_eq suffix) other_suffixes

-- the first value that is past every type that the constant may have: an unsigned type of 64 bits holds a constant with
-- an unsigned suffix or of base 8 or 16, and a signed one any other
abbrev pub value_limit : ℕ → List ℕ → ℕ
value_limit base suffix = if base == 10 && not (is_unsigned_suffix suffix) then 2 ^ 63 else 2 ^ 64

abbrev pub is_integer_of : ℕ → List ℕ → Bool
is_integer_of base text =
    nat_lt 0 (length (digits_of base text)) && is_suffix (suffix_of base text)
    && nat_lt (value_of base (digits_of base text)) (value_limit base (suffix_of base text))

-- an integer constant whose type exists within 64 bits
unfoldable pub is_integer_constant : List ℕ → Bool
is_integer_constant text = is_integer_of (base_of text) text

-- the value of an integer constant
abbrev pub integer_value : List ℕ → ℕ
integer_value text = value_of (base_of text) (digits_of (base_of text) text)
