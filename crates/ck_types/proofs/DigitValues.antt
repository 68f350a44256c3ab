-- The value of digits grows with each digit.
use Rattle.std.proofs.Common.{◌≡◌, ℕ, zero, suc, ◌+◌, ◌*◌, ◌^◌, ◌<◌, ◌≤◌, List, [], ◌∷◌, length, take, get_or, arith}
use Rattle.std.proofs.lemmas.List.{length-take-le}
use Rattle.std.proofs.Math.Nat.{add-mul, mul_assoc, mul-one, mul-le-mul_left, pow-le-pow_right, pow-suc, pow-zero}
use Rattle.ck_base.specs.IntegerConstants.{digit_value, value_of}

-- one more power of the base in each of two summands
moved : (base d power p rest r last : ℕ) → p ≡ power * base → r ≡ rest * base + last
    → d * p + r ≡ (d * power + rest) * base + last
moved base d power p rest r last e f =
    let a : d * power * base ≡ d * (power * base) = mul_assoc d power base in
    let b : (d * power + rest) * base ≡ d * power * base + rest * base = add-mul (d * power) rest base in
    rw e (omega (arith, a, b, f))

one-digit : (base d : ℕ) → d * base ^ 0 + 0 ≡ 0 * base + d
one-digit base d = rw (pow-zero base) (omega (arith, mul-one d))

value-next : (base i : ℕ) (digits : List ℕ) → i < length digits
    → value_of base (take (suc i) digits) ≡ value_of base (take i digits) * base + digit_value (get_or digits i 0)
value-next base i [] within = absurd (omega arith)
value-next base zero (b ∷ digits) within = one-digit base (digit_value b)
value-next base (suc i) (b ∷ digits) within =
    let size : length (take (suc i) digits) ≡ suc (length (take i digits)) = omega (
      arith,
      length-take-le (suc i) digits (omega arith),
      length-take-le i digits (omega arith),
    ) in
    moved base (digit_value b) (base ^ length (take i digits)) (base ^ length (take (suc i) digits))
    (value_of base (take i digits)) (value_of base (take (suc i) digits)) (digit_value (get_or digits i 0))
    (rw size (pow-suc base (length (take i digits)))) (value-next base i digits (omega arith))

pub value_more : (base i : ℕ) (digits : List ℕ) → i < length digits
    → value_of base (take (i + 1) digits) ≡ value_of base (take i digits) * base + digit_value (get_or digits i 0)
value_more base i digits within =
    let more : i + 1 ≡ suc i = omega arith in
    rw more (value-next base i digits within)

take-shorter : (i : ℕ) (digits : List ℕ) → length (take i digits) ≤ length digits
take-shorter zero digits = omega arith
take-shorter (suc i) [] = omega arith
take-shorter (suc i) (b ∷ digits) = omega (arith, take-shorter i digits)

pub value-take-le : (base i : ℕ) (digits : List ℕ) → 0 < base → value_of base (take i digits) ≤ value_of base digits
value-take-le base zero digits some = omega arith
value-take-le base (suc i) [] some = omega arith
value-take-le base (suc i) (b ∷ digits) some =
    let power : base ^ length (take i digits) ≤ base ^ length digits = pow-le-pow_right {n = base} some
    {i = length (take i digits)} {j = length digits} (take-shorter i digits) in
    let first : digit_value b * base ^ length (take i digits) ≤ digit_value b * base ^ length digits = mul-le-mul_left
    (digit_value b) power in
    omega (arith, first, value-take-le base i digits some)
