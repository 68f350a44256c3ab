-- What an operator makes is in the range of its type.
use Rattle.std.proofs.Common.{◌≡◌, ℕ, suc, ◌^◌, ◌%◌, ◌/◌, ◌≤ℤ◌, ◌<ℤ◌, ℤ, pos, negsuc, Bool, true, false}
use Rattle.std.proofs.Common.{Result, Ok, Err, refl, sym, ◌∙◌, subst, arith}
use Rattle.std.specs.Prelude.{IfOk, if◌then◌else◌, not, int_div, int_rem, int_lt, unsigned_abs}
use Rattle.std.specs.Prelude.{bit_and, bit_or, bit_xor}
use lib.IntN.{◌+ℤ◌, ◌-ℤ◌, ◌*ℤ◌, neg_ℤ}
use Rattle.std.specs.Int.{int_div_euclid}
use Rattle.std.specs.Ordering.{int_eq}
use Rattle.std.proofs.Math.Nat.{div-le_self, mod-le}
use Rattle.std.proofs.lemmas.Int.{ints}
use Rattle.ck_types.specs.Arithmetic.{where_represented, in_type, with_quotient, is_shift_count, shifted_left}
use Rattle.ck_types.specs.Arithmetic.{shifted_right, bitwise, bits_of, combined, changed, one_if, is_comparison}
use Rattle.ck_types.specs.Arithmetic.{left_type, right_type, result_type, typed, binary, unary, unary_type}
use Rattle.ck_types.specs.IntegerTypes.{represents, is_signed, modulo, wrapped, converted, promoted, width}
use Rattle.ck_types.specs.Ranges.{IsInRange, BinaryIsInRange, UnaryIsInRange}
use Rattle.ck_types.specs.declared.integer_types.IntegerType.{IntegerType}
use Rattle.ck_types.specs.declared.integer_types.IntegerType.TheVariants as types
use Rattle.ck_types.specs.declared.operators.BinaryOperator.{BinaryOperator}
use Rattle.ck_types.specs.declared.operators.BinaryOperator.TheVariants as operators
use Rattle.ck_types.specs.declared.operators.UnaryOperator.{UnaryOperator}
use Rattle.ck_types.specs.declared.operators.UnaryOperator.TheVariants as unaries
use Rattle.ck_types.specs.declared.operators.NoValue.{NoValue}
use Rattle.ck_types.specs.declared.operators.NoValue.TheVariants.{DivisionByZero, SignedOverflow, BadShift}
use Rattle.ck_types.specs.declared.operators.IntegerValue.{IntegerValue}
use Rattle.ck_types.proofs.Conversions.{converts_into_range}

pub either : {P : Type 0} (v : Bool) → (v ≡ true → P) → (v ≡ false → P) → P
either true p q = p refl
either false p q = q refl

abbrev InRange : IntegerType → ℤ → Type 0
InRange t z = represents t z ≡ true

-- a value between 0 and one in range is in range
from-zero : (t : IntegerType) (x z : ℤ) → InRange t x → pos 0 ≤ℤ z → z ≤ℤ x → InRange t z
from-zero types.Bool x z h from to = grind (arith, h, from, to)
from-zero types.Char x z h from to = grind (arith, h, from, to)
from-zero types.SignedChar x z h from to = grind (arith, h, from, to)
from-zero types.Short x z h from to = grind (arith, h, from, to)
from-zero types.UnsignedShort x z h from to = grind (arith, h, from, to)
from-zero types.Int x z h from to = grind (arith, h, from, to)
from-zero types.UnsignedInt x z h from to = grind (arith, h, from, to)
from-zero types.Long x z h from to = grind (arith, h, from, to)
from-zero types.UnsignedLong x z h from to = grind (arith, h, from, to)
from-zero types.LongLong x z h from to = grind (arith, h, from, to)
from-zero types.UnsignedLongLong x z h from to = grind (arith, h, from, to)

up_to-zero : (t : IntegerType) (x z : ℤ) → InRange t x → x ≤ℤ z → z <ℤ pos 1 → InRange t z
up_to-zero types.Bool x z h from to = grind (arith, h, from, to)
up_to-zero types.Char x z h from to = grind (arith, h, from, to)
up_to-zero types.SignedChar x z h from to = grind (arith, h, from, to)
up_to-zero types.Short x z h from to = grind (arith, h, from, to)
up_to-zero types.UnsignedShort x z h from to = grind (arith, h, from, to)
up_to-zero types.Int x z h from to = grind (arith, h, from, to)
up_to-zero types.UnsignedInt x z h from to = grind (arith, h, from, to)
up_to-zero types.Long x z h from to = grind (arith, h, from, to)
up_to-zero types.UnsignedLong x z h from to = grind (arith, h, from, to)
up_to-zero types.LongLong x z h from to = grind (arith, h, from, to)
up_to-zero types.UnsignedLongLong x z h from to = grind (arith, h, from, to)

modulo-range : (t : IntegerType) (z : ℤ) → is_signed t ≡ false → InRange t (modulo (2 ^ width t) z)
modulo-range types.Bool z h = grind arith
modulo-range types.Char z h = grind arith
modulo-range types.SignedChar z h = absurd (cc)
modulo-range types.Short z h = absurd (cc)
modulo-range types.UnsignedShort z h = grind arith
modulo-range types.Int z h = absurd (cc)
modulo-range types.UnsignedInt z h = grind arith
modulo-range types.Long z h = absurd (cc)
modulo-range types.UnsignedLong z h = grind arith
modulo-range types.LongLong z h = absurd (cc)
modulo-range types.UnsignedLongLong z h = grind arith

wrapped-range : (t : IntegerType) (z : ℤ) → InRange t (wrapped t z)
wrapped-range types.Bool z = grind arith
wrapped-range types.Char z = grind arith
wrapped-range types.SignedChar z = grind arith
wrapped-range types.Short z = grind arith
wrapped-range types.UnsignedShort z = grind arith
wrapped-range types.Int z = grind arith
wrapped-range types.UnsignedInt z = grind arith
wrapped-range types.Long z = grind arith
wrapped-range types.UnsignedLong z = grind arith
wrapped-range types.LongLong z = grind arith
wrapped-range types.UnsignedLongLong z = grind arith

-- a result that comes under a condition
cond-ok : (b : Bool) (o r : ℤ) (why : NoValue) → (if b then Ok o else Err why) ≡ Ok r → (b ≡ true) × (o ≡ r)
cond-ok true o r why h = (refl, cc)
cond-ok false o r why h = absurd (cc)

abbrev Gives : Result ℤ NoValue → ℤ → Type 0
Gives o r = o ≡ Ok r

ok-same : (o r : ℤ) → Gives (Ok o) r → o ≡ r
ok-same o r h = cc

moved : (t : IntegerType) (o r : ℤ) → o ≡ r → InRange t o → InRange t r
moved t o r same h = subst (InRange t) same h

of_signed : (t : IntegerType) (z : ℤ) → is_signed t ≡ true → in_type t z ≡ where_represented t z z
of_signed t z h = rw h refl

of_unsigned : (t : IntegerType) (z : ℤ) → is_signed t ≡ false → in_type t z ≡ Ok (modulo (2 ^ width t) z)
of_unsigned t z h = rw h refl

in_type-range : (t : IntegerType) (z r : ℤ) → in_type t z ≡ Ok r → InRange t r
in_type-range t z r h = either (is_signed t)
    (λ s. let parts = cond-ok (represents t z) z r SignedOverflow (sym (of_signed t z s) ∙ h) in
    moved t z r parts.1 parts.0)
    (λ s. moved t (modulo (2 ^ width t) z) r (ok-same (modulo (2 ^ width t) z) r (sym (of_unsigned t z s) ∙ h))
    (modulo-range t z s))

-- the remainder is between 0 and the dividend
remainder-range : (t : IntegerType) (x y : ℤ) → InRange t x → InRange t (int_rem x y)
remainder-range t (pos a) y h = from-zero t (pos a) (pos (a % unsigned_abs y)) h (omega (arith, ints))
    (omega (arith, ints, mod-le a (unsigned_abs y)))
remainder-range t (negsuc a) y h = up_to-zero t (negsuc a) (neg_ℤ (pos (suc a % unsigned_abs y))) h
    (omega (arith, ints, mod-le (suc a) (unsigned_abs y))) (omega (arith, ints))

quotient-range : (t : IntegerType) (x y o r : ℤ) → with_quotient t x y o ≡ Ok r → (InRange t (int_div x y)) × (o ≡ r)
quotient-range t x y o r h = either (int_eq y (pos 0)) (λ e. let wrong : Err DivisionByZero ≡ Ok r = rw e at h in
    absurd (cc)) (λ e. cond-ok (represents t (int_div x y)) o r SignedOverflow (rw e at h))

-- a value shifted to the right is between 0, or -1, and the value
halved-range : (t : IntegerType) (x : ℤ) (n : ℕ) → InRange t x → InRange t (int_div_euclid x (pos n))
halved-range t (pos a) n h = from-zero t (pos a) (pos (a / n)) h (omega (arith, ints))
    (omega (arith, ints, div-le_self a n))
halved-range t (negsuc a) n h = up_to-zero t (negsuc a) (negsuc (a / n)) h
    (omega (arith, ints, div-le_self a n)) (omega (arith, ints))

shifted_right-range : (t : IntegerType) (x y r : ℤ) → InRange t x → shifted_right t x y ≡ Ok r → InRange t r
shifted_right-range t x y r h e =
    let parts = cond-ok (is_shift_count t y) (int_div_euclid x (pos (2 ^ unsigned_abs y))) r BadShift e in
    moved t (int_div_euclid x (pos (2 ^ unsigned_abs y))) r parts.1 (halved-range t x (2 ^ unsigned_abs y) h)

shifted_left-range : (t : IntegerType) (x y r : ℤ) → shifted_left t x y ≡ Ok r → InRange t r
shifted_left-range t x y r e = either (not (is_shift_count t y)) (λ c. let wrong : Err BadShift ≡ Ok r = rw c at e in
    absurd (cc)) counted where
      counted : not (is_shift_count t y) ≡ false → InRange t r
      counted c = either (int_lt x (pos 0)) (λ n. let wrong : Err SignedOverflow ≡ Ok r = rw (c, n) at e in absurd (cc))
          (λ n. in_type-range t (x *ℤ pos (2 ^ unsigned_abs y)) r (rw (c, n) at e))

bitwise-range : (f : ℕ → ℕ → ℕ) (t : IntegerType) (x y r : ℤ) → bitwise f t x y ≡ Ok r → InRange t r
bitwise-range f t x y r e =
    let bits = wrapped t (pos (f (bits_of t x) (bits_of t y))) in
    moved t bits r (ok-same bits r e) (wrapped-range t (pos (f (bits_of t x) (bits_of t y))))

truth-range : (b : Bool) (r : ℤ) → Gives (Ok (one_if b)) r → InRange types.Int r
truth-range true r e = moved types.Int (pos 1) r (ok-same (pos 1) r e) refl
truth-range false r e = moved types.Int (pos 0) r (ok-same (pos 0) r e) refl

combined-range : (op : BinaryOperator) (t : IntegerType) (x y r : ℤ) → InRange t x → combined op t x y ≡ Ok r
    → InRange (if is_comparison op then types.Int else t) r
combined-range operators.Multiply t x y r h e = in_type-range t (x *ℤ y) r e
combined-range operators.Divide t x y r h e =
    let parts = quotient-range t x y (int_div x y) r e in moved t (int_div x y) r parts.1 parts.0
combined-range operators.Remainder t x y r h e =
    let parts = quotient-range t x y (int_rem x y) r e in
    moved t (int_rem x y) r parts.1 (remainder-range t x y h)
combined-range operators.Add t x y r h e = in_type-range t (x +ℤ y) r e
combined-range operators.Subtract t x y r h e = in_type-range t (x -ℤ y) r e
combined-range operators.ShiftLeft t x y r h e = shifted_left-range t x y r e
combined-range operators.ShiftRight t x y r h e = shifted_right-range t x y r h e
combined-range operators.Less t x y r h e = truth-range _ r e
combined-range operators.Greater t x y r h e = truth-range _ r e
combined-range operators.LessOrEqual t x y r h e = truth-range _ r e
combined-range operators.GreaterOrEqual t x y r h e = truth-range _ r e
combined-range operators.Equal t x y r h e = truth-range _ r e
combined-range operators.NotEqual t x y r h e = truth-range _ r e
combined-range operators.BitwiseAnd t x y r h e = bitwise-range bit_and t x y r e
combined-range operators.BitwiseXor t x y r h e = bitwise-range bit_xor t x y r e
combined-range operators.BitwiseOr t x y r h e = bitwise-range bit_or t x y r e

typed-range : (t : IntegerType) (o : Result ℤ NoValue) (v : IntegerValue) → ((r : ℤ) → o ≡ Ok r → InRange t r)
    → typed t o ≡ Ok v → IsInRange v
typed-range t (Ok z) v h e = let same : record { of = t; value = z } ≡ v = cc in subst IsInRange same (h z refl)
typed-range t (Err why) v h e = absurd (cc)

pub binary-range : BinaryIsInRange
binary-range op a b v e =
    let t = left_type op a.of b.of in
    let x = converted t a.value in
    let y = converted (right_type op a.of b.of) b.value in
    typed-range (result_type op a.of b.of) (combined op t x y) v
    (λ r f. combined-range op t x y r (converts_into_range t a.value) f) e

changed-range : (op : UnaryOperator) (t of : IntegerType) (x r : ℤ) → t ≡ promoted of → InRange t x
    → changed op t x ≡ Ok r
    → InRange (unary_type op of) r
changed-range unaries.Plus t of x r p h e = subst (λ u. InRange u r) p (moved t x r (ok-same x r e) h)
changed-range unaries.Minus t of x r p h e = subst (λ u. InRange u r) p (in_type-range t (pos 0 -ℤ x) r e)
changed-range unaries.Complement t of x r p h e = subst (λ u. InRange u r) p (moved t (wrapped t (negsuc 0 -ℤ x)) r
    (ok-same (wrapped t (negsuc 0 -ℤ x)) r e) (wrapped-range t (negsuc 0 -ℤ x)))
changed-range unaries.Not t of x r p h e = truth-range (int_eq x (pos 0)) r e

pub unary-range : UnaryIsInRange
unary-range op a v e =
    let t = promoted a.of in
    let x = converted t a.value in
    typed-range (unary_type op a.of) (changed op t x) v
    (λ r f. changed-range op t a.of x r refl (converts_into_range t a.value) f) e

pub binary_if_ok : (op : BinaryOperator) (a b : IntegerValue) (r : Result IntegerValue NoValue) → r ≡ binary op a b
    → IfOk r IsInRange
binary_if_ok op a b (Ok v) e = binary-range op a b v (sym e)
binary_if_ok op a b (Err why) e = tt

pub unary_if_ok : (op : UnaryOperator) (a : IntegerValue) (r : Result IntegerValue NoValue) → r ≡ unary op a
    → IfOk r IsInRange
unary_if_ok op a (Ok v) e = unary-range op a v (sym e)
unary_if_ok op a (Err why) e = tt
