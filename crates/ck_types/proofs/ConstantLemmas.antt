-- Constants: a value of 64 bits or more has no type, and the type that a constant has can represent it.
use Rattle.std.proofs.Common.{◌≡◌, ℕ, ◌^◌, ◌≤◌, pos, Bool, true, false, List, [], ◌∷◌, Option, Some, None}
use Rattle.std.proofs.Common.{refl, ap, arith}
use Rattle.std.specs.Prelude.{⊤, IfSome, if◌then◌else◌}
use Rattle.ck_types.specs.ConstantTypes.{candidates, constant_type, first_representing, with_value}
use Rattle.ck_types.specs.IntegerTypes.{represents}
use Rattle.ck_types.specs.Ranges.{IsInRange}
use Rattle.ck_types.specs.declared.constants.Suffix.{Suffix}
use Rattle.ck_types.specs.declared.integer_types.IntegerType.{IntegerType}
use Rattle.ck_types.specs.declared.integer_types.IntegerType.TheVariants as types

too-great : (t : IntegerType) (value : ℕ) → 2 ^ 64 ≤ value → represents t (pos value) ≡ false
too-great types.Bool value h = grind (arith, h)
too-great types.Char value h = grind (arith, h)
too-great types.SignedChar value h = grind (arith, h)
too-great types.Short value h = grind (arith, h)
too-great types.UnsignedShort value h = grind (arith, h)
too-great types.Int value h = grind (arith, h)
too-great types.UnsignedInt value h = grind (arith, h)
too-great types.Long value h = grind (arith, h)
too-great types.UnsignedLong value h = grind (arith, h)
too-great types.LongLong value h = grind (arith, h)
too-great types.UnsignedLongLong value h = grind (arith, h)

none-representing : (ts : List IntegerType) (value : ℕ) → 2 ^ 64 ≤ value → first_representing ts (pos value) ≡ None
none-representing [] value h = refl
none-representing (t ∷ ts) value h = let e : represents t (pos value) ≡ false = too-great t value h in
    rw e (none-representing ts value h)

pub without_type : (is_decimal : Bool) (suffix : Suffix) (value : ℕ) → 2 ^ 64 ≤ value
    → with_value value (constant_type is_decimal suffix value) ≡ None
without_type is_decimal suffix value h =
    ap (with_value value) (none-representing (candidates is_decimal suffix) value h)

abbrev Represents : ℕ → Option IntegerType → Type 0
Represents value None = ⊤
Represents value (Some t) = represents t (pos value) ≡ true

chosen : (b : Bool) (t : IntegerType) (value : ℕ) (rest : Option IntegerType) → represents t (pos value) ≡ b
    → Represents value rest → Represents value (if b then Some t else rest)
chosen true t value rest h r = h
chosen false t value rest h r = r

first-represents : (ts : List IntegerType) (value : ℕ) → Represents value (first_representing ts (pos value))
first-represents [] value = tt
first-represents (t ∷ ts) value = chosen (represents t (pos value)) t value (first_representing ts (pos value)) refl
    (first-represents ts value)

typed-range : (value : ℕ) (o : Option IntegerType) → Represents value o → IfSome (with_value value o) IsInRange
typed-range value None h = tt
typed-range value (Some t) h = h

pub constant-range : (is_decimal : Bool) (suffix : Suffix) (value : ℕ)
    → IfSome (with_value value (constant_type is_decimal suffix value)) IsInRange
constant-range is_decimal suffix value = typed-range value (constant_type is_decimal suffix value)
    (first-represents (candidates is_decimal suffix) value)
