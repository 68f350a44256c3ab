-- Worked rows, computed on the definitions.
use Rattle.std.proofs.Common.{◌≡◌, refl, Ok, Err, ℤ, pos, negsuc}
use Rattle.std.specs.Prelude.{Some, None, true, false, codes}
use Rattle.ck_types.specs.ConstantTypes.{character_constant, constant, constant_type, integer_constant}
use Rattle.ck_types.specs.declared.constants.Suffix.TheVariants as suffixes
use Rattle.ck_types.specs.Arithmetic.{binary, unary}
use Rattle.ck_types.specs.IntegerTypes.{converted, common, promoted, greatest, least}
use Rattle.ck_types.specs.declared.integer_types.IntegerType.{IntegerType}
use Rattle.ck_types.specs.declared.integer_types.IntegerType.TheVariants as types
use Rattle.ck_types.specs.declared.operators.BinaryOperator.TheVariants as operators
use Rattle.ck_types.specs.declared.operators.UnaryOperator.TheVariants as unaries
use Rattle.ck_types.specs.declared.operators.NoValue.TheVariants as why
use Rattle.ck_types.specs.declared.operators.IntegerValue.{IntegerValue}

abbrev pub as_type : IntegerType → ℤ → IntegerValue
as_type t z = record { of = t; value = z }

-- 300 as `unsigned char` is 44, 200 as `signed char` is -56, 2 as `_Bool` is 1
to_char : converted types.Char (pos 300) ≡ pos 44
to_char = refl

to_signed_char : converted types.SignedChar (pos 200) ≡ negsuc 55
to_signed_char = refl

to_truth : converted types.Bool (pos 2) ≡ pos 1
to_truth = refl

-- -1 as `unsigned int` is the greatest
minus_one : converted types.UnsignedInt (negsuc 0) ≡ greatest types.UnsignedInt
minus_one = refl

-- `unsigned short` and `unsigned char` are promoted to `int`
short_promoted : promoted types.UnsignedShort ≡ types.Int
short_promoted = refl

-- `int` with `unsigned int`, `long` with `unsigned int` of one width, `long long` with `unsigned long`
int_unsigned : common types.Int types.UnsignedInt ≡ types.UnsignedInt
int_unsigned = refl

long_unsigned : common types.Long types.UnsignedInt ≡ types.UnsignedLong
long_unsigned = refl

wider_signed : common types.LongLong types.UnsignedLong ≡ types.LongLong
wider_signed = refl

-- `-1 < 1u` is 0
unsigned_less : binary operators.Less (as_type types.Int (negsuc 0)) (as_type types.UnsignedInt (pos 1))
    ≡ Ok (as_type types.Int (pos 0))
unsigned_less = refl

-- `2147483647 + 1` overflows, `4294967295u + 1` is 0
overflow : binary operators.Add (as_type types.Int (pos 2147483647)) (as_type types.Int (pos 1))
    ≡ Err why.SignedOverflow
overflow = refl

reduced : binary operators.Add (as_type types.UnsignedInt (pos 4294967295)) (as_type types.Int (pos 1))
    ≡ Ok (as_type types.UnsignedInt (pos 0))
reduced = refl

-- of `unsigned char` 200 + 100 is the `int` 300
char_sum : binary operators.Add (as_type types.Char (pos 200)) (as_type types.Char (pos 100))
    ≡ Ok (as_type types.Int (pos 300))
char_sum = refl

-- `-7 / 2` is -3 and `-7 % 2` is -1; `1 / 0` and INT_MIN % -1 are undefined
toward_zero : binary operators.Divide (as_type types.Int (negsuc 6)) (as_type types.Int (pos 2))
    ≡ Ok (as_type types.Int (negsuc 2))
toward_zero = refl

sign_of_dividend : binary operators.Remainder (as_type types.Int (negsuc 6)) (as_type types.Int (pos 2))
    ≡ Ok (as_type types.Int (negsuc 0))
sign_of_dividend = refl

by_zero : binary operators.Divide (as_type types.Int (pos 1)) (as_type types.Int (pos 0)) ≡ Err why.DivisionByZero
by_zero = refl

least_by_minus_one : binary operators.Remainder (as_type types.Int (least types.Int)) (as_type types.Int (negsuc 0))
    ≡ Err why.SignedOverflow
least_by_minus_one = refl

-- `1 << 31` overflows, `1u << 31` doesn't, `1 << 32` and `1 << -1` are bad shifts, `1u << 3ll` is unsigned
into_the_sign : binary operators.ShiftLeft (as_type types.Int (pos 1)) (as_type types.Int (pos 31))
    ≡ Err why.SignedOverflow
into_the_sign = refl

top_bit : binary operators.ShiftLeft (as_type types.UnsignedInt (pos 1)) (as_type types.LongLong (pos 31))
    ≡ Ok (as_type types.UnsignedInt (pos 2147483648))
top_bit = refl

by_width : binary operators.ShiftLeft (as_type types.Int (pos 1)) (as_type types.Int (pos 32)) ≡ Err why.BadShift
by_width = refl

by_less_than_zero : binary operators.ShiftRight (as_type types.Int (pos 1)) (as_type types.Int (negsuc 0))
    ≡ Err why.BadShift
by_less_than_zero = refl

-- `-5 >> 1` is -3
rounded_down : binary operators.ShiftRight (as_type types.Int (negsuc 4)) (as_type types.Int (pos 1))
    ≡ Ok (as_type types.Int (negsuc 2))
rounded_down = refl

-- `-1 & 255` is 255, `-1 ^ 1` is -2
masked : binary operators.BitwiseAnd (as_type types.Int (negsuc 0)) (as_type types.Int (pos 255))
    ≡ Ok (as_type types.Int (pos 255))
masked = refl

flipped : binary operators.BitwiseXor (as_type types.Int (negsuc 0)) (as_type types.Int (pos 1))
    ≡ Ok (as_type types.Int (negsuc 1))
flipped = refl

-- of an `unsigned char` 1, `~` is -2; of an `unsigned int` 0 the greatest; `-0x80000000` without a sign is itself
complement_promoted : unary unaries.Complement (as_type types.Char (pos 1)) ≡ Ok (as_type types.Int (negsuc 1))
complement_promoted = refl

complement_unsigned : unary unaries.Complement (as_type types.UnsignedInt (pos 0))
    ≡ Ok (as_type types.UnsignedInt (pos 4294967295))
complement_unsigned = refl

minus_unsigned : unary unaries.Minus (as_type types.UnsignedInt (pos 2147483648))
    ≡ Ok (as_type types.UnsignedInt (pos 2147483648))
minus_unsigned = refl

minus_least : unary unaries.Minus (as_type types.Int (least types.Int)) ≡ Err why.SignedOverflow
minus_least = refl

-- `!2ull` is the `int` 0
not_two : unary unaries.Not (as_type types.UnsignedLongLong (pos 2)) ≡ Ok (as_type types.Int (pos 0))
not_two = refl

-- `2147483648` is a `long long`, `0x80000000` and `2147483648u` are `unsigned int`, `0xffffffffl` is `unsigned long`,
-- and `9223372036854775808` has no type
decimal_constant : constant_type true suffixes.Nothing 2147483648 ≡ Some types.LongLong
decimal_constant = refl

hexadecimal_constant : constant_type false suffixes.Nothing 2147483648 ≡ Some types.UnsignedInt
hexadecimal_constant = refl

unsigned_constant : constant_type true suffixes.U 2147483648 ≡ Some types.UnsignedInt
unsigned_constant = refl

long_constant : constant_type false suffixes.L 4294967295 ≡ Some types.UnsignedLong
long_constant = refl

no_type : constant_type true suffixes.Nothing 9223372036854775808 ≡ None
no_type = refl

-- constants by their bytes
octal_constant : integer_constant (codes "037777777777") ≡ Some (as_type types.UnsignedInt (pos 4294967295))
octal_constant = refl

suffixed_constant : integer_constant (codes "7Lu") ≡ Some (as_type types.UnsignedLong (pos 7))
suffixed_constant = refl

long_long_constant : integer_constant (codes "0x10LL") ≡ Some (as_type types.LongLong (pos 16))
long_long_constant = refl

plain_zero : integer_constant (codes "0") ≡ Some (as_type types.Int (pos 0))
plain_zero = refl

no_constant : integer_constant (codes "18446744073709551616u") ≡ None
no_constant = refl

no_octal : integer_constant (codes "08") ≡ None
no_octal = refl

escaped_constant : character_constant (codes "'\\xff'") ≡ Some (as_type types.Int (pos 255))
escaped_constant = refl

bell_constant : character_constant (codes "'\\a'") ≡ Some (as_type types.Int (pos 7))
bell_constant = refl

no_character : character_constant (codes "''") ≡ None
no_character = refl

-- either
number : constant (codes "0x10") ≡ Some (as_type types.Int (pos 16))
number = refl

character : constant (codes "'a'") ≡ Some (as_type types.Int (pos 97))
character = refl

no_literal : constant (codes "1u0") ≡ None
no_literal = refl
