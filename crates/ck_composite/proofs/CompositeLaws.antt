-- A type is its own composite type.
use Rattle.std.proofs.Common.{◌≡◌, ℕ, Option, Some, None, refl, ap, ◌∙◌}
use Rattle.ck_composite.specs.Made.{composite_entry}
use Rattle.ck_types.specs.TypeTable.{AList, AType, Entry}
use Rattle.ck_types.specs.Types.{Array, CType, Function, Integer, NoParameters, Parameter, Parameters, Pointer, Struct}
use Rattle.ck_types.specs.Types.{Void, all_composite, composite, known_size}

known_size-self : (n : Option ℕ) → known_size n n ≡ n
known_size-self None = refl
known_size-self (Some n) = refl

mutual
  pub composite-self : (t : CType) → composite t t ≡ t
  composite-self Void = refl
  composite-self (Integer t) = refl
  composite-self (Pointer q t) = ap (Pointer q) (composite-self t)
  composite-self (Array q t n) =
      ap (λ u. Array q u (known_size n n)) (composite-self t) ∙ ap (Array q t) (known_size-self n)
  composite-self (Struct s) = refl
  composite-self (Function q t ps v) =
      ap (λ u. Function q u (all_composite ps ps) v) (composite-self t)
      ∙ ap (λ qs. Function q t qs v) (all_composite-self ps)

  all_composite-self : (ps : Parameters) → all_composite ps ps ≡ ps
  all_composite-self NoParameters = refl
  all_composite-self (Parameter t ps) =
      ap (λ u. Parameter u (all_composite ps ps)) (composite-self t) ∙ ap (Parameter t) (all_composite-self ps)

pub entry-self : (e : Entry) → composite_entry e e ≡ e
entry-self (AType t) = ap AType (composite-self t)
entry-self (AList ps) = ap AList (all_composite-self ps)
