-- The value of digits grows with each digit.
use Rattle.std.proofs.Common.{◌≡◌, ℕ, zero, suc, ◌+◌, ◌-◌, ◌*◌, ◌^◌, ◌<◌, ◌≤◌, true, List, [], ◌∷◌, length, take}
use Rattle.std.proofs.Common.{get_or, refl, arith}
use Rattle.std.specs.List.{list_all}
use Rattle.std.proofs.lemmas.Bool.{and_parts}
use Rattle.std.proofs.lemmas.Bool.Decides.{nat_tests}
use Rattle.std.proofs.lemmas.List.{length-take-le}
use Rattle.std.proofs.Math.Nat.{add-mul, mul_assoc, mul-one, mul-le-mul, mul-le-mul_left, pow-le-pow_right, pow-suc}
use Rattle.std.proofs.Math.Nat.{pow-zero}
use Rattle.ck_base.specs.Characters.{is_digit}
use Rattle.ck_base.specs.IntegerConstants.{digit_value, value_of}
use Rattle.ck_lexer.specs.Scanning.{number_of}
use Rattle.ck_lexer.specs.declared.numbers.Base.{Base}
use Rattle.ck_lexer.specs.declared.numbers.Base.TheVariants.{Decimal, Octal, Hexadecimal}

-- one more power of the base in each of two summands
moved : (base d power p rest r last : ℕ) → p ≡ power * base → r ≡ rest * base + last
    → d * p + r ≡ (d * power + rest) * base + last
moved base d power p rest r last e f =
    let a : d * power * base ≡ d * (power * base) = mul_assoc d power base in
    let b : (d * power + rest) * base ≡ d * power * base + rest * base = add-mul (d * power) rest base in
    rw e (omega (arith, a, b, f))

one-digit : (base d : ℕ) → d * base ^ 0 + 0 ≡ 0 * base + d
one-digit base d = rw (pow-zero base) (omega (arith, mul-one d))

value-next : (base i : ℕ) (digits : List ℕ) → i < length digits
    → value_of base (take (suc i) digits) ≡ value_of base (take i digits) * base + digit_value (get_or digits i 0)
value-next base i [] within = absurd (omega arith)
value-next base zero (b ∷ digits) within = one-digit base (digit_value b)
value-next base (suc i) (b ∷ digits) within =
    let size : length (take (suc i) digits) ≡ suc (length (take i digits)) = omega (
      arith,
      length-take-le (suc i) digits (omega arith),
      length-take-le i digits (omega arith),
    ) in
    moved base (digit_value b) (base ^ length (take i digits)) (base ^ length (take (suc i) digits))
    (value_of base (take i digits)) (value_of base (take (suc i) digits)) (digit_value (get_or digits i 0))
    (rw size (pow-suc base (length (take i digits)))) (value-next base i digits (omega arith))

pub value_more : (base i : ℕ) (digits : List ℕ) → i < length digits
    → value_of base (take (i + 1) digits) ≡ value_of base (take i digits) * base + digit_value (get_or digits i 0)
value_more base i digits within =
    let more : i + 1 ≡ suc i = omega arith in
    rw more (value-next base i digits within)

take-shorter : (i : ℕ) (digits : List ℕ) → length (take i digits) ≤ length digits
take-shorter zero digits = omega arith
take-shorter (suc i) [] = omega arith
take-shorter (suc i) (b ∷ digits) = omega (arith, take-shorter i digits)

pub value-take-le : (base i : ℕ) (digits : List ℕ) → 0 < base → value_of base (take i digits) ≤ value_of base digits
value-take-le base zero digits some = omega arith
value-take-le base (suc i) [] some = omega arith
value-take-le base (suc i) (b ∷ digits) some =
    let power : base ^ length (take i digits) ≤ base ^ length digits = pow-le-pow_right {n = base} some
    {i = length (take i digits)} {j = length digits} (take-shorter i digits) in
    let first : digit_value b * base ^ length (take i digits) ≤ digit_value b * base ^ length digits = mul-le-mul_left
    (digit_value b) power in
    omega (arith, first, value-take-le base i digits some)

pub base-positive : (base : Base) → 0 < number_of base
base-positive Decimal = omega arith
base-positive Octal = omega arith
base-positive Hexadecimal = omega arith

-- the value of decimal digits is below the power of ten with as many zeros
digit-small : (b : ℕ) → is_digit b ≡ true → digit_value b ≤ 9
digit-small b digit = grind (arith, nat_tests)

digit-at : (i : ℕ) (digits : List ℕ) → list_all is_digit digits ≡ true → i < length digits
    → is_digit (get_or digits i 0) ≡ true
digit-at i [] all within = absurd (omega arith)
digit-at zero (b ∷ digits) all within = (and_parts (is_digit b) (list_all is_digit digits) all).0
digit-at (suc i) (b ∷ digits) all within = digit-at i digits
    (and_parts (is_digit b) (list_all is_digit digits) all).1 (omega arith)

value-below : (digits : List ℕ) → list_all is_digit digits ≡ true → value_of 10 digits < 10 ^ length digits
value-below [] all = omega arith
value-below (b ∷ digits) all =
    let parts = and_parts (is_digit b) (list_all is_digit digits) all in
    let power : 10 ^ suc (length digits) ≡ 10 ^ length digits * 10 = pow-suc 10 (length digits) in
    let first : (digit_value b + 1) * 10 ^ length digits ≤ 10 * 10 ^ length digits = mul-le-mul
    {n₁ = digit_value b + 1} {m₁ = 10 ^ length digits} {n₂ = 10} {m₂ = 10 ^ length digits}
    (omega (arith, digit-small b parts.0)) (omega arith) in
    let split : (digit_value b + 1) * 10 ^ length digits ≡ digit_value b * 10 ^ length digits + 1 * 10 ^ length digits =
    add-mul (digit_value b) 1 (10 ^ length digits) in
    let whole : digit_value b * 10 ^ length digits + value_of 10 digits < 10 ^ suc (length digits) = omega (
      arith,
      power,
      first,
      split,
      value-below digits parts.1,
    ) in
    whole

-- one more decimal digit
pub decimal_more : (i : ℕ) (digits : List ℕ) → list_all is_digit digits ≡ true → i < length digits
    → value_of 10 (take (i + 1) digits) ≡ value_of 10 (take i digits) * 10 + (get_or digits i 0 - 48)
decimal_more i digits all within =
    let digit : is_digit (get_or digits i 0) ≡ true = digit-at i digits all within in
    let value : digit_value (get_or digits i 0) ≡ get_or digits i 0 - 48 = rw digit refl in
    omega (arith, value, value_more 10 i digits within)

pub decimal_digit : (i : ℕ) (digits : List ℕ) → list_all is_digit digits ≡ true → i < length digits
    → get_or digits i 0 - 48 ≤ 9
decimal_digit i digits all within =
    let digit : is_digit (get_or digits i 0) ≡ true = digit-at i digits all within in
    grind (arith, nat_tests, digit)

pub pow_more : (i : ℕ) → 10 ^ (i + 1) ≡ 10 ^ i * 10
pow_more i =
    let e : i + 1 ≡ suc i = omega arith in
    rw e (pow-suc 10 i)

pub value-small : (digits : List ℕ) → list_all is_digit digits ≡ true → length digits ≤ 9
    → value_of 10 digits < 1000000000
value-small digits all few =
    let power : 10 ^ length digits ≤ 10 ^ 9 = pow-le-pow_right {n = 10} (omega arith) {i = length digits} {j = 9} few in
    omega (arith, power, value-below digits all)
