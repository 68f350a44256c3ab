-- Lists whose items belong together place by place, and items of lists that a function makes.
use Rattle.std.proofs.Common.{◌≡◌, inl, inr, refl, sym, ◌∙◌, ap, subst, arith}
use Rattle.std.specs.Prelude.{◌<◌, ◌≤◌, ◌+◌, ◌-◌, ◌⊎◌, ℕ, suc, zero, List, [], ◌∷◌}
use Rattle.std.specs.Prelude.{◌++◌, length, map, take}
use Rattle.std.specs.Prelude.{Contains, slice_get, slice_index_or, Some, AllPairs}
use Rattle.std.specs.List.{AllZip}
use Rattle.std.proofs.Math.ListN.{get_or-map as same_default}
use Rattle.std.proofs.lemmas.List.{get_or-map, length-map, length-append, map_more}
use Rattle.std.proofs.lemmas.Slice.Zip.{all_zipped_more}
use Rattle.std.proofs.lemmas.List.{get_or_append_left, get_or-append_right}

module _ {A B : Type 0} (R : A → B → Type 0) where
  pub AllZip-at : (xs : List A) (ys : List B) (i : ℕ) (x : A) (y : B) → AllZip R xs ys → i < length xs
      → R (slice_index_or xs i x) (slice_index_or ys i y)
  AllZip-at [] ys i x y each low = absurd (omega (arith, low))
  AllZip-at (a ∷ xs) [] i x y each low = absurd each
  AllZip-at (a ∷ xs) (b ∷ ys) zero x y each low = each.0
  AllZip-at (a ∷ xs) (b ∷ ys) (suc i) x y each low = AllZip-at xs ys i x y each.1 (omega (arith, low))

  -- one item more of those that f makes
  pub AllZip-more : {X : Type 0} (f : X → A) (xs : List X) (i : ℕ) (x : X) (ys : List B) (y : B) → i < length xs
      → x ≡ slice_index_or xs i x → AllZip R (map f (take i xs)) ys → R (f x) y
      → AllZip R (map f (take (i + 1) xs)) (ys ++ y ∷ [])
  AllZip-more f xs i x ys y low is each one =
      let push = all_zipped_more R (map f (take i xs)) ys (f x) y each one in
      rw (map_more f xs i x low, ← is) push

pub Contains-map : {A B : Type 0} (f : A → B) (xs : List A) (x : A) → Contains xs x → Contains (map f xs) (f x)
Contains-map f xs x (k, low, is) =
    let long = length-map xs f in (k, omega (arith, low, long), same_default f xs k x ∙ ap f is)

-- an item of those that f makes is made of one
pub Contains-from_map : {A B : Type 0} (f : A → B) (xs : List A) (y : B) → Contains (map f xs) y
    → (x : A) × Contains xs x × (f x ≡ y)
Contains-from_map f [] y (k, low, is) = absurd (omega (arith, low))
Contains-from_map f (a ∷ xs) y (k, low, is) =
    let long = length-map (a ∷ xs) f in
    let inside : k < length (a ∷ xs) = omega (arith, low, long) in
    let x = slice_index_or (a ∷ xs) k a in
    (x, (k, inside, default_of (a ∷ xs) k a inside), sym (get_or-map f (a ∷ xs) k a y inside) ∙ is)
  where
    default_of : {A : Type 0} (xs : List A) (k : ℕ) (d : A) → k < length xs
        → slice_index_or xs k (slice_index_or xs k d) ≡ slice_index_or xs k d
    default_of [] k d low = absurd (omega (arith, low))
    default_of (x ∷ xs) zero d low = refl
    default_of (x ∷ xs) (suc k) d low = default_of xs k d (omega (arith, low))

pub AllZip-weaker : {A B : Type 0} (R S : A → B → Type 0) → ((x : A) (y : B) → R x y → S x y)
    → (xs : List A) (ys : List B) → AllZip R xs ys → AllZip S xs ys
AllZip-weaker R S step [] [] each = tt
AllZip-weaker R S step [] (y ∷ ys) each = absurd each
AllZip-weaker R S step (x ∷ xs) [] each = absurd each
AllZip-weaker R S step (x ∷ xs) (y ∷ ys) each = (step x y each.0, AllZip-weaker R S step xs ys each.1)

-- of items that f makes
pub AllZip-from_map : {A B C : Type 0} (R : B → C → Type 0) (S : A → C → Type 0) (f : A → B)
    → ((x : A) (y : C) → R (f x) y → S x y) → (xs : List A) (ys : List C) → AllZip R (map f xs) ys
    → AllZip S xs ys
AllZip-from_map R S f step [] [] each = tt
AllZip-from_map R S f step [] (y ∷ ys) each = absurd each
AllZip-from_map R S f step (x ∷ xs) [] each = absurd each
AllZip-from_map R S f step (x ∷ xs) (y ∷ ys) each = (step x y each.0, AllZip-from_map R S f step xs ys each.1)

-- pairs --------------------------------------------------------------------------------------------------------------

pub AllPairs-map : {A B : Type 0} (R : B → B → Type 0) (f : A → B) (xs : List A)
    → AllPairs (λ a b. R (f a) (f b)) xs → AllPairs R (map f xs)
AllPairs-map R f [] pairs i j d less within = absurd (omega (arith, within))
AllPairs-map R f (x ∷ xs) pairs i j d less within =
    let long = length-map (x ∷ xs) f in
    let inside : j < length (x ∷ xs) = omega (arith, within, long) in
    let first = get_or-map f (x ∷ xs) i x d (omega (arith, less, inside)) in
    let second = get_or-map f (x ∷ xs) j x d inside in
    subst (λ b. R (slice_index_or (map f (x ∷ xs)) i d) b) (sym second)
    (subst (λ a. R a (f (slice_index_or (x ∷ xs) j x))) (sym first) (pairs i j x less inside))

pub below_or_above : (k n : ℕ) → (k < n) ⊎ (n ≤ k)
below_or_above k n = grind arith

-- of two lists of which each item of the first is related to each of the second
pub AllPairs-append : {A : Type 0} (R : A → A → Type 0) (xs ys : List A) → AllPairs R xs → AllPairs R ys
    → ((i j : ℕ) (d : A) → i < length xs → j < length ys → R (slice_index_or xs i d) (slice_index_or ys j d))
    → AllPairs R (xs ++ ys)
AllPairs-append {A} R xs ys left right across i j d less within =
    let n = length xs in
    let long : length (xs ++ ys) ≡ n + length ys = length-append xs ys in
    elim (below_or_above j n) [
      | inl low ↦
          rw (get_or_append_left xs ys d i (omega arith), get_or_append_left xs ys d j low) (left i j d less low)
      | inr high ↦
          elim (below_or_above i n) [
            | inl low ↦
                rw (get_or_append_left xs ys d i low, get_or-append_right xs ys n j d refl high)
                (across i (j - n) d low (omega arith))
            | inr past ↦
                rw (get_or-append_right xs ys n i d refl past, get_or-append_right xs ys n j d refl high)
                (right (i - n) (j - n) d (omega arith) (omega arith))
          ]
    ]

-- items by numbers ---------------------------------------------------------------------------------------------------

pub slice_get-below : {A : Type 0} (xs : List A) (i : ℕ) → i < length xs → (x : A) × (slice_get xs i ≡ Some x)
slice_get-below [] i low = absurd (omega arith)
slice_get-below (x ∷ xs) zero low = (x, refl)
slice_get-below (x ∷ xs) (suc i) low = slice_get-below xs i (omega arith)

pub slice_get-append : {A : Type 0} (xs ys : List A) (i : ℕ) (x : A) → slice_get xs i ≡ Some x
    → slice_get (xs ++ ys) i ≡ Some x
slice_get-append [] ys i x is = absurd (cc)
slice_get-append (a ∷ xs) ys zero x is = is
slice_get-append (a ∷ xs) ys (suc i) x is = slice_get-append xs ys i x is

pub slice_get-middle : {A : Type 0} (xs : List A) (y : A) (ys : List A)
    → slice_get (xs ++ y ∷ ys) (length xs) ≡ Some y
slice_get-middle [] y ys = refl
slice_get-middle (x ∷ xs) y ys = slice_get-middle xs y ys

pub slice_get-from_map : {A B : Type 0} (f : A → B) (xs : List A) (i : ℕ) (y : B)
    → slice_get (map f xs) i ≡ Some y → (x : A) × (slice_get xs i ≡ Some x) × (f x ≡ y)
slice_get-from_map f [] i y is = absurd (cc)
slice_get-from_map f (x ∷ xs) zero y is = (x, refl, cc)
slice_get-from_map f (x ∷ xs) (suc i) y is = slice_get-from_map f xs i y is
