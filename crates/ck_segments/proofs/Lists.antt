-- Elements of lists that grow at their end.
use Rattle.std.proofs.Common.{◌≡◌, ◌<◌, ◌⊎◌, ℕ, zero, suc, List, [], ◌∷◌, ◌++◌, Some, length, slice_get, refl, ap, inl}
use Rattle.std.proofs.Common.{inr, arith}
use Rattle.std.specs.Prelude.{slice_index_or}

pub append-none : {A : Type 0} (xs : List A) → xs ++ [] ≡ xs
append-none [] = refl
append-none (x ∷ xs) = ap (λ ys. x ∷ ys) (append-none xs)

pub index-append : {A : Type 0} (xs ys : List A) (d : A) (n : ℕ) → n < length xs →
    slice_index_or (xs ++ ys) n d ≡ slice_index_or xs n d
index-append [] ys d n below = absurd (omega (arith, below))
index-append (x ∷ xs) ys d zero below = refl
index-append (x ∷ xs) ys d (suc n) below = index-append xs ys d n (omega (arith, below))

pub index-last : {A : Type 0} (xs : List A) (x d : A) → slice_index_or (xs ++ x ∷ []) (length xs) d ≡ x
index-last [] x d = refl
index-last (y ∷ xs) x d = index-last xs x d

pub at-push : {A : Type 0} (xs : List A) (x : A) (n : ℕ) (y : A) → slice_get (xs ++ x ∷ []) n ≡ Some y →
    (slice_get xs n ≡ Some y) ⊎ ((n ≡ length xs) × (x ≡ y))
at-push [] x zero y h = let same : x ≡ y = cc in inr (refl, same)
at-push [] x (suc n) y h = absurd (cc)
at-push (z ∷ xs) x zero y h = inl h
at-push (z ∷ xs) x (suc n) y h = elim (at-push xs x n y h) [ inl l ↦ inl l | inr r ↦ inr (ap suc r.0, r.1) ]
