-- Laws of ranges: what a conversion and an operator give is in its type's range; and a bound of all values.
use Rattle.std.specs.Prelude.{◌≡◌, ◌^◌, true, ◌≤ℤ◌, ◌<ℤ◌, ℤ, pos, Ok}
use lib.IntN.{neg_ℤ}
use Rattle.ck_types.specs.IntegerTypes.{represents, converted}
use Rattle.ck_types.specs.Arithmetic.{binary, unary}
use Rattle.ck_types.specs.declared.integer_types.IntegerType.{IntegerType}
use Rattle.ck_types.specs.declared.operators.BinaryOperator.{BinaryOperator}
use Rattle.ck_types.specs.declared.operators.UnaryOperator.{UnaryOperator}
use Rattle.ck_types.specs.declared.operators.IntegerValue.{IntegerValue}

-- the integer types together have values from -2^63 up to 2^64 - 1
abbrev pub IsValue : ℤ → Type 0
IsValue z = (neg_ℤ (pos (2 ^ 63)) ≤ℤ z) × (z <ℤ pos (2 ^ 64))

-- a value with its type is in the type's range
abbrev pub IsInRange : IntegerValue → Type 0
IsInRange v = represents v.of v.value ≡ true

-- what an operator makes is in its type's range
abbrev pub BinaryIsInRange : Type 0
BinaryIsInRange = (op : BinaryOperator) (a b v : IntegerValue) → binary op a b ≡ Ok v → IsInRange v

abbrev pub UnaryIsInRange : Type 0
UnaryIsInRange = (op : UnaryOperator) (a v : IntegerValue) → unary op a ≡ Ok v → IsInRange v

-- a converted value is in the range of its type
abbrev pub ConvertsIntoRange : Type 0
ConvertsIntoRange = (t : IntegerType) (z : ℤ) → represents t (converted t z) ≡ true

-- a value that the type can represent stays
abbrev pub ConvertsToItself : Type 0
ConvertsToItself = (t : IntegerType) (z : ℤ) → represents t z ≡ true → converted t z ≡ z
