-- A quotient by a number other than 0.
use Rattle.std.proofs.Common.{arith, ◌≡◌, ℤ, pos, negsuc, zero, suc, false, refl, Result, of_z}
use mir.Syntax.{w128}
use Rattle.std.specs.Int.RustNames.{int_div}
use Rattle.std.specs.Ordering.{int_eq}
use Rattle.ck_types.specs.Arithmetic.{where_represented, with_quotient}
use Rattle.ck_types.specs.declared.integer_types.IntegerType.{IntegerType}
use Rattle.ck_types.specs.declared.operators.NoValue.{NoValue}

pub with_quotient-nonzero : (t : IntegerType) (x y r q o : ℤ) (s : Result ℤ NoValue) → s ≡ where_represented t q o
    → int_eq y (pos 0) ≡ false → q ≡ int_div x y → o ≡ r → s ≡ with_quotient t x y r
with_quotient-nonzero t x y r q o s e n i j = rw (e, i, j, n) refl

pub int_eq-nonzero : (y : ℤ) → ¬ (of_z w128 y ≡ 0) → int_eq y (pos 0) ≡ false
int_eq-nonzero (pos zero) h = absurd (h refl)
int_eq-nonzero (pos (suc n)) h = grind arith
int_eq-nonzero (negsuc n) h = refl
