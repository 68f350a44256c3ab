-- Products of values of 64 bits.
use Rattle.std.proofs.Common.{◌^◌, ◌-◌, ◌<◌, ◌≤◌, ℤ, unsigned_abs, FitsSigned, arith, lit<}
use lib.IntN.{◌*ℤ◌}
use mir.Syntax.{w128}
use Rattle.std.proofs.lemmas.Int.{fits_signed_mul}

pub product-fits : (x y : ℤ) → unsigned_abs x < 2 ^ 64 → unsigned_abs y ≤ 2 ^ 63 → FitsSigned w128 (x *ℤ y)
product-fits x y p q = fits_signed_mul w128 x y (2 ^ 64 - 1) (2 ^ 63) (omega arith) q (lit< tt)
