-- The type of an integer constant, by its base, suffix and value (C99 6.4.4.1); and the value of a constant with its
-- type, by its bytes. A character constant is an `int` (6.4.4.4).
use Rattle.std.specs.Option.{is_some}
use Rattle.std.specs.Prelude.{◌≡◌, ℕ, Bool, true, false, ◌&&◌, ◌==◌, nat_lt, List, [], ◌∷◌, length, count_by}
use Rattle.std.specs.Prelude.{slice_index, Option, Some, None, if◌then◌else◌, ℤ, pos}
use Rattle.ck_base.specs.CharacterConstants.{between_quotes, character_value}
use Rattle.ck_base.specs.Characters.{◌∈◌}
use Rattle.ck_base.specs.IntegerConstants.{base_of, digits_of, is_integer_constant, suffix_of, is_suffix}
use Rattle.ck_base.specs.IntegerConstants.{is_unsigned_suffix, value_of}
use Rattle.ck_types.specs.IntegerTypes.{represents}
use Rattle.ck_types.specs.declared.integer_types.IntegerType.{IntegerType}
use Rattle.ck_types.specs.declared.operators.IntegerValue.{IntegerValue}
use Rattle.ck_types.specs.declared.integer_types.IntegerType.TheVariants.{Int, UnsignedInt, Long, UnsignedLong}
use Rattle.ck_types.specs.declared.integer_types.IntegerType.TheVariants.{LongLong, UnsignedLongLong}
use Rattle.ck_types.specs.declared.constants.Suffix.{Suffix}
use Rattle.ck_types.specs.declared.constants.Suffix.TheVariants.{Nothing, L, LL, U, UL, ULL}

-- the table of 6.4.4.1: whether the constant is decimal, its suffix, and the types that it may have
abbrev pub candidates : Bool → Suffix → List IntegerType
candidates true Nothing = Int ∷ Long ∷ LongLong ∷ []
candidates false Nothing = Int ∷ UnsignedInt ∷ Long ∷ UnsignedLong ∷ LongLong ∷ UnsignedLongLong ∷ []
candidates _ U = UnsignedInt ∷ UnsignedLong ∷ UnsignedLongLong ∷ []
candidates true L = Long ∷ LongLong ∷ []
candidates false L = Long ∷ UnsignedLong ∷ LongLong ∷ UnsignedLongLong ∷ []
candidates _ UL = UnsignedLong ∷ UnsignedLongLong ∷ []
candidates true LL = LongLong ∷ []
candidates false LL = LongLong ∷ UnsignedLongLong ∷ []
candidates _ ULL = UnsignedLongLong ∷ []

-- the first of some types that can represent a value
abbrev pub first_representing : List IntegerType → ℤ → Option IntegerType
first_representing [] z = None
first_representing (t ∷ ts) z = if represents t z then Some t else first_representing ts z

abbrev pub constant_type : Bool → Suffix → ℕ → Option IntegerType
constant_type is_decimal suffix value = first_representing (candidates is_decimal suffix) (pos value)

abbrev pub is_long : ℕ → Bool
is_long b = b ∈ "lL"

abbrev pub suffix_with : Bool → ℕ → Suffix
suffix_with is_unsigned longs =
    if longs == 0 then (if is_unsigned then U else Nothing)
    else if longs == 1 then (if is_unsigned then UL else L)
    else (if is_unsigned then ULL else LL)

-- a suffix by how it is written
abbrev pub suffix_written : List ℕ → Suffix
suffix_written text = suffix_with (is_unsigned_suffix text) (count_by is_long text)

abbrev pub with_value : ℕ → Option IntegerType → Option IntegerValue
with_value value None = None
with_value value (Some t) = Some (record { of = t; value = pos value })

abbrev pub constant_in : ℕ → List ℕ → List ℕ → Option IntegerValue
constant_in base digits suffix =
    if nat_lt 0 (length digits) && is_suffix suffix
    then with_value (value_of base digits) (constant_type (base == 10) (suffix_written suffix) (value_of base digits))
    else None

-- the value of an integer constant with its type, by its bytes
abbrev pub integer_constant : List ℕ → Option IntegerValue
integer_constant text = constant_in (base_of text) (digits_of (base_of text) text) (suffix_of (base_of text) text)

abbrev pub as_int : Option ℕ → Option IntegerValue
as_int None = None
as_int (Some value) = Some (record { of = Int; value = pos value })

-- the value of a character constant, which is an `int`, by its bytes
abbrev pub character_constant : List ℕ → Option IntegerValue
character_constant text = as_int (character_value (between_quotes text))

-- the value of a constant with its type: of a character constant, which begins with a quote, or of an integer constant
abbrev pub is_character : List ℕ → Bool
is_character text = slice_index text 0 ∈ "'"

abbrev pub constant : List ℕ → Option IntegerValue
constant text = if is_character text then character_constant text else integer_constant text

-- a token that is an integer constant has a type and a value, and nothing else has
abbrev pub ConstantsHaveTypes : Type 0
ConstantsHaveTypes = (text : List ℕ) → is_integer_constant text ≡ is_some (integer_constant text)
