-- Compatibility is reflexive and symmetric.
use Rattle.std.proofs.Common.{◌≡◌, ℕ, refl, arith, Bool, true, false, List, [], ◌∷◌, Some, None, Option}
use Rattle.std.specs.Prelude.{◌&&◌, ◌==◌}
use Rattle.std.specs.Str.{bytes_eq}
use Rattle.ck_types.specs.Compatibility.{IsReflexive, IsSymmetric}
use Rattle.ck_types.specs.NodeEquality.{and-true, equal-self, same_integer-self, same_truth-self}
use Rattle.ck_types.specs.Types.{CType, Void, Integer, Pointer, Array, Struct, Function, Parameters, NoParameters}
use Rattle.ck_types.specs.Types.{Parameter, Qualifiers, StructIdentity, ByTag, ByTypedef, ByPlace, ByMember}
use Rattle.ck_types.specs.Types.{ByParameter, same_truth}
use Rattle.ck_types.specs.Types.{same_integer, same_qualifiers, same_struct, same_size, compatible, all_compatible}
use Rattle.ck_types.specs.IntegerTypes.{rank, is_signed}
use Rattle.ck_types.specs.declared.integer_types.IntegerType.{IntegerType}

and-same : {a b c d : Bool} → a ≡ c → b ≡ d → (a && b) ≡ (c && d)
and-same p q = rw (p, q) refl

same_truth-swap : (a b : Bool) → same_truth a b ≡ same_truth b a
same_truth-swap true true = refl
same_truth-swap true false = refl
same_truth-swap false true = refl
same_truth-swap false false = refl

equal-swap : (n m : ℕ) → (n == m) ≡ (m == n)
equal-swap n m = grind arith

bytes-self : (xs : List ℕ) → bytes_eq xs xs ≡ true
bytes-self [] = refl
bytes-self (x ∷ xs) = grind (arith, bytes-self xs)

bytes-swap : (xs ys : List ℕ) → bytes_eq xs ys ≡ bytes_eq ys xs
bytes-swap [] [] = refl
bytes-swap [] (y ∷ ys) = refl
bytes-swap (x ∷ xs) [] = refl
bytes-swap (x ∷ xs) (y ∷ ys) = grind (arith, bytes-swap xs ys)

same_qualifiers-self : (q : Qualifiers) → same_qualifiers q q ≡ true
same_qualifiers-self q = and-true (same_truth-self q.constant) (same_truth-self q.volatile)

same_qualifiers-swap : (p q : Qualifiers) → same_qualifiers p q ≡ same_qualifiers q p
same_qualifiers-swap p q = and-same (same_truth-swap p.constant q.constant) (same_truth-swap p.volatile q.volatile)

same_integer-swap : (t u : IntegerType) → same_integer t u ≡ same_integer u t
same_integer-swap t u = and-same (equal-swap (rank t) (rank u)) (same_truth-swap (is_signed t) (is_signed u))

same_struct-self : (s : StructIdentity) → same_struct s s ≡ true
same_struct-self (ByTag a) = bytes-self a
same_struct-self (ByTypedef a) = bytes-self a
same_struct-self (ByPlace file offset) = and-true (equal-self file) (equal-self offset)
same_struct-self (ByMember s k) = and-true (same_struct-self s) (equal-self k)
same_struct-self (ByParameter a file offset) =
    and-true (and-true (bytes-self a) (equal-self file)) (equal-self offset)

same_struct-swap : (s t : StructIdentity) → same_struct s t ≡ same_struct t s
same_struct-swap (ByTag a) (ByTag b) = bytes-swap a b
same_struct-swap (ByTypedef a) (ByTypedef b) = bytes-swap a b
same_struct-swap (ByPlace f a) (ByPlace g b) = and-same (equal-swap f g) (equal-swap a b)
same_struct-swap (ByMember s k) (ByMember t i) = and-same (same_struct-swap s t) (equal-swap k i)
same_struct-swap (ByParameter a f k) (ByParameter b g i) =
    and-same (and-same (bytes-swap a b) (equal-swap f g)) (equal-swap k i)
same_struct-swap _ _ = refl

same_size-self : (n : Option ℕ) → same_size n n ≡ true
same_size-self None = refl
same_size-self (Some n) = equal-self n

same_size-swap : (n m : Option ℕ) → same_size n m ≡ same_size m n
same_size-swap None None = refl
same_size-swap None (Some m) = refl
same_size-swap (Some n) None = refl
same_size-swap (Some n) (Some m) = equal-swap n m

mutual
  pub compatible-self : (a : CType) → compatible a a ≡ true
  compatible-self Void = refl
  compatible-self (Integer t) = same_integer-self t
  compatible-self (Pointer q a) = and-true (same_qualifiers-self q) (compatible-self a)
  compatible-self (Array q a n) =
      and-true (and-true (same_qualifiers-self q) (compatible-self a)) (same_size-self n)
  compatible-self (Struct s) = same_struct-self s
  compatible-self (Function q a ps e) =
      and-true (and-true (and-true (same_qualifiers-self q) (compatible-self a)) (all_compatible-self ps))
      (same_truth-self e)

  all_compatible-self : (ps : Parameters) → all_compatible ps ps ≡ true
  all_compatible-self NoParameters = refl
  all_compatible-self (Parameter a ps) = and-true (compatible-self a) (all_compatible-self ps)

pub is_reflexive : IsReflexive
is_reflexive = compatible-self

mutual
  pub compatible-swap : (a b : CType) → compatible a b ≡ compatible b a
  compatible-swap Void Void = refl
  compatible-swap (Integer t) (Integer u) = same_integer-swap t u
  compatible-swap (Pointer p a) (Pointer q b) = and-same (same_qualifiers-swap p q) (compatible-swap a b)
  compatible-swap (Array p a n) (Array q b m) =
      and-same (and-same (same_qualifiers-swap p q) (compatible-swap a b)) (same_size-swap n m)
  compatible-swap (Struct s) (Struct t) = same_struct-swap s t
  compatible-swap (Function p a ps e) (Function q b qs f) =
      and-same (and-same (and-same (same_qualifiers-swap p q) (compatible-swap a b)) (all_compatible-swap ps qs))
      (same_truth-swap e f)
  compatible-swap _ _ = refl

  all_compatible-swap : (ps qs : Parameters) → all_compatible ps qs ≡ all_compatible qs ps
  all_compatible-swap NoParameters NoParameters = refl
  all_compatible-swap NoParameters (Parameter b qs) = refl
  all_compatible-swap (Parameter a ps) NoParameters = refl
  all_compatible-swap (Parameter a ps) (Parameter b qs) = and-same (compatible-swap a b) (all_compatible-swap ps qs)

pub is_symmetric : IsSymmetric
is_symmetric = compatible-swap
