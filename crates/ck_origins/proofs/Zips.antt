-- Lists that agree place by place, and the element at a place.
use Rattle.std.proofs.Common.{◌≡◌, ℕ, zero, suc, List, [], ◌∷◌, ◌++◌, length, slice_get, Some}
use Rattle.std.proofs.Common.{refl, ap, subst, arith}
use Rattle.std.specs.List.{AllZip, Contains}
use Rattle.std.proofs.lemmas.Option.{same_Some, none-some, slice_get_within, get_or_from_slice_get}

pub contains_at : {X : Type 0} (xs : List X) (i : ℕ) (x : X) → slice_get xs i ≡ Some x → Contains xs x
contains_at xs i x at = (i, slice_get_within xs i x at, get_or_from_slice_get xs i x x at)

module _ {A B : Type 0} (R : A → B → Type 0) where
  pub zip_right : (xs : List A) (ys : List B) → AllZip R xs ys → (i : ℕ) (x : A) → slice_get xs i ≡ Some x
      → (y : B) × (slice_get ys i ≡ Some y) × R x y
  zip_right [] ys zip i x at = absurd (none-some x at)
  zip_right (z ∷ xs) [] zip i x at = absurd zip
  zip_right (z ∷ xs) (y ∷ ys) zip zero x at = (y, refl, subst (λ w. R w y) (same_Some z x at) zip.0)
  zip_right (z ∷ xs) (y ∷ ys) zip (suc i) x at = zip_right xs ys zip.1 i x at

  pub zip_left : (xs : List A) (ys : List B) → AllZip R xs ys → (i : ℕ) (y : B) → slice_get ys i ≡ Some y
      → (x : A) × (slice_get xs i ≡ Some x) × R x y
  zip_left [] [] zip i y at = absurd (none-some y at)
  zip_left [] (z ∷ ys) zip i y at = absurd zip
  zip_left (x ∷ xs) [] zip i y at = absurd zip
  zip_left (x ∷ xs) (z ∷ ys) zip zero y at = (x, refl, subst (R x) (same_Some z y at) zip.0)
  zip_left (x ∷ xs) (z ∷ ys) zip (suc i) y at = zip_left xs ys zip.1 i y at

  pub zip_length : (xs : List A) (ys : List B) → AllZip R xs ys → length xs ≡ length ys
  zip_length [] [] zip = refl
  zip_length [] (y ∷ ys) zip = absurd zip
  zip_length (x ∷ xs) [] zip = absurd zip
  zip_length (x ∷ xs) (y ∷ ys) zip = ap suc (zip_length xs ys zip.1)

  pub zip_push : (xs : List A) (ys : List B) (x : A) (y : B) → AllZip R xs ys → R x y
      → AllZip R (xs ++ (x ∷ [])) (ys ++ (y ∷ []))
  zip_push [] [] x y zip r = (r, tt)
  zip_push [] (b ∷ ys) x y zip r = absurd zip
  zip_push (a ∷ xs) [] x y zip r = absurd zip
  zip_push (a ∷ xs) (b ∷ ys) x y zip r = (zip.0, zip_push xs ys x y zip.1 r)

-- a relation that says more says the other, of the elements that are there
module _ {A B : Type 0} (R S : A → B → Type 0) where
  pub zip_weaker : (xs : List A) (ys : List B) → ((x : A) (y : B) → Contains ys y → R x y → S x y) → AllZip R xs ys
      → AllZip S xs ys
  zip_weaker [] [] weaker zip = tt
  zip_weaker [] (y ∷ ys) weaker zip = absurd zip
  zip_weaker (x ∷ xs) [] weaker zip = absurd zip
  zip_weaker (x ∷ xs) (y ∷ ys) weaker zip = (
    weaker x y (0, omega arith, refl) zip.0,
    zip_weaker xs ys (λ a b at. weaker a b (let below = at.1 in (suc at.0, omega arith, at.2))) zip.1,
  )
