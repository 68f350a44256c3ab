-- Cases of a test.
use Rattle.std.proofs.Common.{◌≡◌, Bool, true, false, refl}

pub either : {P : Type 0} (v : Bool) → (v ≡ true → P) → (v ≡ false → P) → P
either true p q = p refl
either false p q = q refl
