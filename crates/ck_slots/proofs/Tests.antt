-- Tests that all elements of a list pass, or some.
use Rattle.std.proofs.Common.{◌≡◌, ◌⊎◌, inl, inr, ⊎_elim, eqb-true, eq-eqb, refl, ap, sym, ◌∙◌, subst, cond, arith}
use Rattle.std.proofs.lemmas.List.Elements.{All-contains}
use Rattle.std.proofs.lemmas.List.Sums.{AllPass-from_list_all}
use Rattle.std.specs.List.{list_all, list_any}
use Rattle.std.specs.Prelude.{ℕ, zero, suc, Bool, true, false, ◌&&◌, ◌||◌, ◌==◌, List, [], ◌∷◌, ◌++◌, filter, flat_map}
use Rattle.std.specs.Prelude.{Contains}
use Rattle.ck_slots.specs.Listed.{is_among, is_number}

-- of two tests ------------------------------------------------------------------------------------------------------

pub both : (a b : Bool) → (a && b) ≡ true → (a ≡ true) × (b ≡ true)
both true b e = (refl, e)
both false b e = absurd (cc)

pub both_from : (a b : Bool) → a ≡ true → b ≡ true → (a && b) ≡ true
both_from true b d e = e
both_from false b d e = absurd (cc)

pub one : (a b : Bool) → (a || b) ≡ true → (a ≡ true) ⊎ (b ≡ true)
one true b e = inl refl
one false b e = inr e

pub left : (a b : Bool) → a ≡ true → (a || b) ≡ true
left true b e = refl
left false b e = absurd (cc)

pub right : (a b : Bool) → b ≡ true → (a || b) ≡ true
right true b e = refl
right false b e = e

-- of elements -------------------------------------------------------------------------------------------------------

module _ {X : Type 0} where
  pub first_contained : (x : X) (xs : List X) → Contains (x ∷ xs) x
  first_contained x xs = (0, omega arith, refl)

  pub rest_contained : (y x : X) (xs : List X) → Contains xs x → Contains (y ∷ xs) x
  rest_contained y x xs at = let lt = at.1 in (suc at.0, omega arith, at.2)

module _ {X : Type 0} (test : X → Bool) where
  pub all_append : (xs ys : List X) → list_all test (xs ++ ys) ≡ true
      → (list_all test xs ≡ true) × (list_all test ys ≡ true)
  all_append [] ys e = (refl, e)
  all_append (x ∷ xs) ys e =
      let head = both (test x) _ e in
      let rest = all_append xs ys head.1 in
      (both_from (test x) _ head.0 rest.0, rest.1)

  pub all_contains : (xs : List X) (x : X) → list_all test xs ≡ true → Contains xs x → test x ≡ true
  all_contains xs x e at = All-contains (λ y. test y ≡ true) xs x (AllPass-from_list_all test xs e) at

  pub all_flat_map : {Y : Type 0} (f : Y → List X) (ys : List Y) (y : Y) → list_all test (flat_map f ys) ≡ true
      → Contains ys y → list_all test (f y) ≡ true
  all_flat_map f ys y e at = all_contains_of (λ z. list_all test (f z)) ys y (each ys e) at
    where
      all_contains_of : {Y : Type 0} (t : Y → Bool) (zs : List Y) (z : Y) → list_all t zs ≡ true → Contains zs z
          → t z ≡ true
      all_contains_of t zs z d at = All-contains (λ y. t y ≡ true) zs z (AllPass-from_list_all t zs d) at

      each : (zs : List _) → list_all test (flat_map f zs) ≡ true → list_all (λ z. list_all test (f z)) zs ≡ true
      each [] d = refl
      each (z ∷ zs) d =
          let parts = all_append (f z) (flat_map f zs) d in both_from (list_all test (f z)) _ parts.0 (each zs parts.1)

  pub some : (xs : List X) → list_any test xs ≡ true → (x : X) × Contains xs x × (test x ≡ true)
  some [] e = absurd (cc)
  some (x ∷ xs) e =
      ⊎_elim (λ h. (x, first_contained x xs, h))
      (λ h. let rest = some xs h in (rest.0, rest_contained x rest.0 xs rest.1, rest.2))
      (one (test x) _ e)

  pub any_append_left : (xs ys : List X) → list_any test xs ≡ true → list_any test (xs ++ ys) ≡ true
  any_append_left [] ys e = absurd (cc)
  any_append_left (x ∷ xs) ys e =
      ⊎_elim (left (test x) _) (λ h. right (test x) _ (any_append_left xs ys h)) (one (test x) _ e)

  pub any_append_right : (xs ys : List X) → list_any test ys ≡ true → list_any test (xs ++ ys) ≡ true
  any_append_right [] ys e = e
  any_append_right (x ∷ xs) ys e = right (test x) _ (any_append_right xs ys e)

  pub any_append : (xs ys : List X) → list_any test (xs ++ ys) ≡ true
      → (list_any test xs ≡ true) ⊎ (list_any test ys ≡ true)
  any_append [] ys e = inr e
  any_append (x ∷ xs) ys e =
      ⊎_elim (λ h. inl (left (test x) _ h)) (λ h. ⊎_elim (λ d. inl (right (test x) _ d)) inr (any_append xs ys h))
      (one (test x) _ e)

  pub any_flat_map : {Y : Type 0} (f : Y → List X) (ys : List Y) → list_any test (flat_map f ys) ≡ true
      → (y : Y) × Contains ys y × (list_any test (f y) ≡ true)
  any_flat_map f [] e = absurd (cc)
  any_flat_map f (y ∷ ys) e =
      ⊎_elim (λ h. (y, first_contained y ys, h))
      (λ h. let rest = any_flat_map f ys h in (rest.0, rest_contained y rest.0 ys rest.1, rest.2))
      (any_append (f y) (flat_map f ys) e)

  pub flat_map_any : {Y : Type 0} (f : Y → List X) (ys : List Y) (y : Y) → Contains ys y → list_any test (f y) ≡ true
      → list_any test (flat_map f ys) ≡ true
  flat_map_any f [] y at e = let lt = at.1 in absurd (omega arith)
  flat_map_any f (z ∷ ys) y (zero, lt, is) e =
      any_append_left (f z) (flat_map f ys) (ap (λ x. list_any test (f x)) is ∙ e)
  flat_map_any f (z ∷ ys) y (suc k, lt, is) e =
      any_append_right (f z) (flat_map f ys) (flat_map_any f ys y (k, omega arith, is) e)

-- of numbers --------------------------------------------------------------------------------------------------------

pub contained_number : (n : ℕ) (ns : List ℕ) → is_among n ns ≡ true → Contains ns n
contained_number n ns e =
    let at = some (is_number n) ns e in subst (Contains ns) (sym (eqb-true n at.0 at.2)) at.1

pub among : (n : ℕ) (ns : List ℕ) → Contains ns n → is_among n ns ≡ true
among n [] at = let lt = at.1 in absurd (omega arith)
among n (m ∷ ms) (zero, lt, is) = left (n == m) _ (eq-eqb n m (sym is))
among n (m ∷ ms) (suc k, lt, is) = right (n == m) _ (among n ms (k, omega arith, is))

pub among_filter : (test : ℕ → Bool) (n : ℕ) (ns : List ℕ) → is_among n ns ≡ true → test n ≡ true
    → is_among n (filter test ns) ≡ true
among_filter test n [] e h = absurd (cc)
among_filter test n (m ∷ ms) e h = by (test m) refl (one (n == m) _ e) (λ r. among_filter test n ms r h)
  where
    by : (b : Bool) → test m ≡ b → ((n == m) ≡ true) ⊎ (is_among n ms ≡ true)
        → (is_among n ms ≡ true → is_among n (filter test ms) ≡ true)
        → is_among n (cond b (m ∷ filter test ms) (filter test ms)) ≡ true
    by true d either rest = ⊎_elim (left (n == m) _) (λ r. right (n == m) _ (rest r)) either
    by false d either rest = ⊎_elim (λ s. let same = eqb-true n m s in absurd (cc)) rest either

pub from_filter : (test : ℕ → Bool) (n : ℕ) (ns : List ℕ) → is_among n (filter test ns) ≡ true
    → (is_among n ns ≡ true) × (test n ≡ true)
from_filter test n [] e = absurd (cc)
from_filter test n (m ∷ ms) e = by (test m) refl e (from_filter test n ms)
  where
    by : (b : Bool) → test m ≡ b → is_among n (cond b (m ∷ filter test ms) (filter test ms)) ≡ true
        → (is_among n (filter test ms) ≡ true → (is_among n ms ≡ true) × (test n ≡ true))
        → (is_among n (m ∷ ms) ≡ true) × (test n ≡ true)
    by true d e rest =
        ⊎_elim (λ s. (left (n == m) _ s, ap test (eqb-true n m s) ∙ d))
        (λ r. let passed = rest r in (right (n == m) _ passed.0, passed.1)) (one (n == m) _ e)
    by false d e rest = let passed = rest e in (right (n == m) _ passed.0, passed.1)
