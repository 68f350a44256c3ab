-- Laws of compatible types. Compatibility isn't transitive: `int [3]`, `int []`, `int [4]`.
use Rattle.std.specs.Prelude.{◌≡◌, true}
use Rattle.ck_types.specs.Types.{CType, compatible}

abbrev pub IsReflexive : Type 0
IsReflexive = (a : CType) → compatible a a ≡ true

abbrev pub IsSymmetric : Type 0
IsSymmetric = (a b : CType) → compatible a b ≡ compatible b a
