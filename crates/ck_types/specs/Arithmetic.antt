-- What an operator makes of two values of integer types, or of one: a value and its type, or why the operation is
-- undefined (C99 6.5.3.3, 6.5.5 to 6.5.12). Constants and running programs share this definition.
use Rattle.std.specs.Prelude.{ℕ, ◌^◌, Bool, true, false, ◌&&◌, not, if◌then◌else◌, Result, Ok, Err, ℤ, pos, negsuc}
use Rattle.std.specs.Prelude.{int_div, int_rem, int_lt, int_le, bit_and, bit_or, bit_xor, unsigned_abs}
use Rattle.std.specs.Int.{int_div_euclid}
use Rattle.std.specs.Ordering.{int_eq}
use lib.IntN.{◌+ℤ◌, ◌-ℤ◌, ◌*ℤ◌}
use Rattle.ck_types.specs.IntegerTypes.{is_signed, width, represents, modulo, wrapped, converted, promoted, common}
use Rattle.ck_types.specs.declared.integer_types.IntegerType.{IntegerType}
use Rattle.ck_types.specs.declared.integer_types.IntegerType.TheVariants.{Int}
use Rattle.ck_types.specs.declared.operators.BinaryOperator.{BinaryOperator}
use Rattle.ck_types.specs.declared.operators.BinaryOperator.TheVariants.{Multiply, Divide, Remainder, Add, Subtract}
use Rattle.ck_types.specs.declared.operators.BinaryOperator.TheVariants.{ShiftLeft, ShiftRight, Less, Greater}
use Rattle.ck_types.specs.declared.operators.BinaryOperator.TheVariants.{LessOrEqual, GreaterOrEqual, Equal, NotEqual}
use Rattle.ck_types.specs.declared.operators.BinaryOperator.TheVariants.{BitwiseAnd, BitwiseXor, BitwiseOr}
use Rattle.ck_types.specs.declared.operators.UnaryOperator.{UnaryOperator}
use Rattle.ck_types.specs.declared.operators.UnaryOperator.TheVariants.{Plus, Minus, Complement, Not}
use Rattle.ck_types.specs.declared.operators.NoValue.{NoValue}
use Rattle.ck_types.specs.declared.operators.NoValue.TheVariants.{DivisionByZero, SignedOverflow, BadShift}
use Rattle.ck_types.specs.declared.operators.IntegerValue.{IntegerValue}

abbrev pub one_if : Bool → ℤ
one_if b = if b then pos 1 else pos 0

-- 6.5: a result, where a value is one that the type can represent
abbrev pub where_represented : IntegerType → ℤ → ℤ → Result ℤ NoValue
where_represented t z result = if represents t z then Ok result else Err SignedOverflow

-- 6.2.5, 6.5: a result in a type: an unsigned type reduces it modulo one more than its greatest value, a signed type
-- has to represent it
abbrev pub in_type : IntegerType → ℤ → Result ℤ NoValue
in_type t z = if is_signed t then where_represented t z z else Ok (modulo (2 ^ width t) z)

-- 6.5.5: a quotient, or the remainder beside it, where the type can represent the quotient
abbrev pub with_quotient : IntegerType → ℤ → ℤ → ℤ → Result ℤ NoValue
with_quotient t x y result = if int_eq y (pos 0) then Err DivisionByZero else where_represented t (int_div x y) result

-- 6.5.7: the count is below the width of the promoted left operand
abbrev pub is_shift_count : IntegerType → ℤ → Bool
is_shift_count t count = int_le (pos 0) count && int_lt count (pos (width t))

-- 6.5.7: times a power of 2; a negative value isn't shifted to the left
abbrev pub shifted_left : IntegerType → ℤ → ℤ → Result ℤ NoValue
shifted_left t x count =
    if not (is_shift_count t count) then Err BadShift
    else if int_lt x (pos 0) then Err SignedOverflow
    else in_type t (x *ℤ pos (2 ^ unsigned_abs count))

-- 6.5.7: the quotient by a power of 2, rounded down, also where the value is negative
abbrev pub shifted_right : IntegerType → ℤ → ℤ → Result ℤ NoValue
shifted_right t x count =
    if is_shift_count t count then Ok (int_div_euclid x (pos (2 ^ unsigned_abs count)))
    else Err BadShift

-- 6.2.6.2: the bits of a value, as a number
abbrev pub bits_of : IntegerType → ℤ → ℕ
bits_of t z = unsigned_abs (modulo (2 ^ width t) z)

-- 6.5.10 to 6.5.12: an operation on bits
abbrev pub bitwise : (ℕ → ℕ → ℕ) → IntegerType → ℤ → ℤ → Result ℤ NoValue
bitwise f t x y = Ok (wrapped t (pos (f (bits_of t x) (bits_of t y))))

-- what an operator makes of converted operands, the left one of a type
abbrev pub combined : BinaryOperator → IntegerType → ℤ → ℤ → Result ℤ NoValue
combined Multiply t x y = in_type t (x *ℤ y)
combined Divide t x y = with_quotient t x y (int_div x y)
combined Remainder t x y = with_quotient t x y (int_rem x y)
combined Add t x y = in_type t (x +ℤ y)
combined Subtract t x y = in_type t (x -ℤ y)
combined ShiftLeft t x y = shifted_left t x y
combined ShiftRight t x y = shifted_right t x y
combined Less t x y = Ok (one_if (int_lt x y))
combined Greater t x y = Ok (one_if (int_lt y x))
combined LessOrEqual t x y = Ok (one_if (int_le x y))
combined GreaterOrEqual t x y = Ok (one_if (int_le y x))
combined Equal t x y = Ok (one_if (int_eq x y))
combined NotEqual t x y = Ok (one_if (not (int_eq x y)))
combined BitwiseAnd t x y = bitwise bit_and t x y
combined BitwiseXor t x y = bitwise bit_xor t x y
combined BitwiseOr t x y = bitwise bit_or t x y

abbrev pub is_shift : BinaryOperator → Bool
is_shift ShiftLeft = true
is_shift ShiftRight = true
is_shift _ = false

abbrev pub is_comparison : BinaryOperator → Bool
is_comparison Less = true
is_comparison Greater = true
is_comparison LessOrEqual = true
is_comparison GreaterOrEqual = true
is_comparison Equal = true
is_comparison NotEqual = true
is_comparison _ = false

-- the types that operands are converted to: each is promoted for a shift (6.5.7), else the common type (6.3.1.8)
abbrev pub left_type : BinaryOperator → IntegerType → IntegerType → IntegerType
left_type op t u = if is_shift op then promoted t else common t u

abbrev pub right_type : BinaryOperator → IntegerType → IntegerType → IntegerType
right_type op t u = if is_shift op then promoted u else common t u

-- the type of the result: `int` of a comparison (6.5.8, 6.5.9), else that of the converted left operand
abbrev pub result_type : BinaryOperator → IntegerType → IntegerType → IntegerType
result_type op t u = if is_comparison op then Int else left_type op t u

-- a result with its type
abbrev pub typed : IntegerType → Result ℤ NoValue → Result IntegerValue NoValue
typed t (Ok z) = Ok (record { of = t; value = z })
typed t (Err e) = Err e

-- what an operator makes of two values
abbrev pub binary : BinaryOperator → IntegerValue → IntegerValue → Result IntegerValue NoValue
binary op a b =
    let t = left_type op a.of b.of in
    typed (result_type op a.of b.of) (combined op t (converted t a.value) (converted (right_type op a.of b.of) b.value))

-- 6.5.3.3: what an operator makes of a promoted operand; in two's complement the complement of all bits is -1 - x
abbrev pub changed : UnaryOperator → IntegerType → ℤ → Result ℤ NoValue
changed Plus t x = Ok x
changed Minus t x = in_type t (pos 0 -ℤ x)
changed Complement t x = Ok (wrapped t (negsuc 0 -ℤ x))
changed Not t x = Ok (one_if (int_eq x (pos 0)))

abbrev pub unary_type : UnaryOperator → IntegerType → IntegerType
unary_type Not t = Int
unary_type _ t = promoted t

-- what an operator makes of one value
abbrev pub unary : UnaryOperator → IntegerValue → Result IntegerValue NoValue
unary op a = typed (unary_type op a.of) (changed op (promoted a.of) (converted (promoted a.of) a.value))
