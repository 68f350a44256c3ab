-- The integer types, their values, and the conversion of a value to one of them (C99 6.2.5, 6.3.1.1 to 6.3.1.3,
-- 6.3.1.8). `char` is unsigned and one type with `unsigned char`.
use Rattle.std.specs.Prelude.{ℕ, zero, ◌-◌, ◌^◌, Bool, true, false, ◌&&◌, nat_le, nat_lt, if◌then◌else◌}
use Rattle.std.specs.Prelude.{int_le, int_lt, ℤ, pos}
use lib.IntN.{◌-ℤ◌, neg_ℤ}
use Rattle.std.specs.Int.{int_rem_euclid}
use Rattle.ck_types.specs.declared.integer_types.IntegerType.{IntegerType}
use Rattle.ck_types.specs.declared.integer_types.IntegerType.TheVariants.{Bool as Truth, Char, SignedChar, Short}
use Rattle.ck_types.specs.declared.integer_types.IntegerType.TheVariants.{UnsignedShort, Int, UnsignedInt, Long}
use Rattle.ck_types.specs.declared.integer_types.IntegerType.TheVariants.{UnsignedLong, LongLong, UnsignedLongLong}

abbrev pub is_signed : IntegerType → Bool
is_signed SignedChar = true
is_signed Short = true
is_signed Int = true
is_signed Long = true
is_signed LongLong = true
is_signed _ = false

-- 6.3.1.1: the rank
abbrev pub rank : IntegerType → ℕ
rank Truth = 0
rank Char = 1
rank SignedChar = 1
rank Short = 2
rank UnsignedShort = 2
rank Int = 3
rank UnsignedInt = 3
rank Long = 4
rank UnsignedLong = 4
rank LongLong = 5
rank UnsignedLongLong = 5

-- 6.2.6.2: how many bits a value has, the sign among them
abbrev pub width : IntegerType → ℕ
width Truth = 1
width Char = 8
width SignedChar = 8
width Short = 16
width UnsignedShort = 16
width Int = 32
width UnsignedInt = 32
width Long = 32
width UnsignedLong = 32
width LongLong = 64
width UnsignedLongLong = 64

-- 6.5.3.4: how many bytes an object has
abbrev pub size : IntegerType → ℕ
size Truth = 1
size Char = 1
size SignedChar = 1
size Short = 2
size UnsignedShort = 2
size Int = 4
size UnsignedInt = 4
size Long = 4
size UnsignedLong = 4
size LongLong = 8
size UnsignedLongLong = 8

-- the least and the greatest value
abbrev pub least : IntegerType → ℤ
least t = if is_signed t then neg_ℤ (pos (2 ^ (width t - 1))) else pos 0

abbrev pub greatest : IntegerType → ℤ
greatest t = if is_signed t then pos (2 ^ (width t - 1) - 1) else pos (2 ^ width t - 1)

-- the type can represent the value
abbrev pub represents : IntegerType → ℤ → Bool
represents t z = int_le (least t) z && int_le z (greatest t)

-- 6.3.1.2: whether a value is other than 0
abbrev pub truth : ℤ → ℤ
truth (pos zero) = pos 0
truth _ = pos 1

-- 6.3.1.3: what is left of a value below a modulus, the upper half of which stands for the negative values of a signed
-- type
abbrev pub modulo : ℕ → ℤ → ℤ
modulo modulus z = int_rem_euclid z (pos modulus)

abbrev pub upper_half_negative : ℕ → ℕ → ℤ → ℤ
upper_half_negative half modulus z = if int_lt z (pos half) then z else z -ℤ pos modulus

abbrev pub wrapped : IntegerType → ℤ → ℤ
wrapped t z =
    if is_signed t then upper_half_negative (2 ^ (width t - 1)) (2 ^ width t) (modulo (2 ^ width t) z)
    else modulo (2 ^ width t) z

-- 6.3.1.2, 6.3.1.3: a value converted to a type, where a signed type that can't represent it wraps
abbrev pub converted : IntegerType → ℤ → ℤ
converted Truth z = truth z
converted t z = wrapped t z

-- 6.3.1.1: the type that an operand of a type is promoted to
abbrev pub promoted : IntegerType → IntegerType
promoted t = if nat_lt (rank t) (rank Int) then Int else t

-- 6.2.5: the unsigned type that corresponds to a signed one
abbrev pub unsigned_of : IntegerType → IntegerType
unsigned_of SignedChar = Char
unsigned_of Short = UnsignedShort
unsigned_of Int = UnsignedInt
unsigned_of Long = UnsignedLong
unsigned_of LongLong = UnsignedLongLong
unsigned_of t = t

abbrev pub greater_rank : IntegerType → IntegerType → IntegerType
greater_rank t u = if nat_le (rank u) (rank t) then t else u

-- 6.3.1.8, of a promoted signed and a promoted unsigned type: the unsigned one where its rank isn't less; else the
-- signed one where it can represent all values of the unsigned one; else the unsigned one that corresponds to the
-- signed one
abbrev pub of_both_signs : IntegerType → IntegerType → IntegerType
of_both_signs signed unsigned =
    if nat_le (rank signed) (rank unsigned) then unsigned
    else if represents signed (greatest unsigned) then signed
    else unsigned_of signed

-- 6.3.1.8, of two promoted types
abbrev pub common_promoted : IntegerType → IntegerType → IntegerType
common_promoted t u =
    if is_signed t then (if is_signed u then greater_rank t u else of_both_signs t u)
    else (if is_signed u then of_both_signs u t else greater_rank t u)

-- 6.3.1.8: the common type of two operands by the usual arithmetic conversions
abbrev pub common : IntegerType → IntegerType → IntegerType
common t u = common_promoted (promoted t) (promoted u)
