-- Lists that are read from the back, tests that hold of each element, and what is known of each number of a table.
use Rattle.std.proofs.Common.{◌≡◌, ◌<◌, ◌≤◌, ◌+◌, ◌-◌, ℕ, zero, suc, Bool, true, false, List, [], ◌∷◌, ◌++◌, length}
use Rattle.std.proofs.Common.{drop, get_or, refl, sym, ap, subst, ◌∙◌, arith}
use Rattle.std.proofs.lemmas.List.{drop_more, drop_all, get_or_default}
use Rattle.std.specs.Prelude.{◌&&◌}

module _ {X : Type 0} where
  -- the element before those that were read
  pub drop-back : (xs : List X) (left : ℕ) (x : X) → 0 < left → left ≤ length xs → x ≡ get_or xs (left - 1) x →
      drop (left - 1) xs ≡ x ∷ drop left xs
  drop-back xs left x some low is =
      drop_more xs (left - 1) x (omega arith)
      ∙ ap (λ y. y ∷ drop (left - 1 + 1) xs) (sym is)
      ∙ ap (λ j. x ∷ drop j xs) (omega arith)

  pub drop-next : (xs : List X) (i : ℕ) (x : X) → i < length xs → x ≡ get_or xs i x → drop i xs ≡ x ∷ drop (i + 1) xs
  drop-next xs i x h is = drop_more xs i x h ∙ ap (λ y. y ∷ drop (i + 1) xs) (sym is)

  pub drop-none : (xs : List X) (i : ℕ) → length xs ≤ i → drop i xs ≡ []
  drop-none xs i h = drop_all i xs h

-- tests --------------------------------------------------------------------------------------------------------------

pub first : (a b : Bool) → (a && b) ≡ true → a ≡ true
first true b h = refl
first false b h = h

pub second : (a b : Bool) → (a && b) ≡ true → b ≡ true
second true b h = h
second false b h = absurd (cc)

-- a test that holds of a list holds of an element
pub holds-at : {X : Type 0} (test : X → Bool) (all : List X → Bool) →
    ((x : X) (xs : List X) → all (x ∷ xs) ≡ (test x && all xs)) → (xs : List X) (i : ℕ) (x : X) →
    all xs ≡ true → i < length xs → x ≡ get_or xs i x → test x ≡ true
holds-at test all next [] i x h low is = absurd (omega arith)
holds-at test all next (y ∷ xs) zero x h low is =
    ap test is ∙ first (test y) (all xs) (sym (next y xs) ∙ h)
holds-at test all next (y ∷ xs) (suc i) x h low is =
    holds-at test all next xs i x (second (test y) (all xs) (sym (next y xs) ∙ h)) (omega arith) is

-- numbers of a table -------------------------------------------------------------------------------------------------

-- what is known of each number, and of the next one
pub known-push : {X : Type 0} (P : ℕ → X → Type 0) (xs : List X) (x : X) →
    ((i : ℕ) (d : X) → i < length xs → P i (get_or xs i d)) → P (length xs) x →
    (i : ℕ) (d : X) → i < length (xs ++ (x ∷ [])) → P i (get_or (xs ++ (x ∷ [])) i d)
known-push P [] x each here zero d h = here
known-push P [] x each here (suc i) d h = absurd (omega arith)
known-push P (y ∷ xs) x each here zero d h = each zero d (omega arith)
known-push P (y ∷ xs) x each here (suc i) d h =
    known-push (λ j z. P (suc j) z) xs x (λ j e k. each (suc j) e (omega arith)) here i d (omega arith)

-- the same of what an element is known by
pub element-at : {X : Type 0} (test : X → Bool) (P : X → Type 0) → ((x : X) → test x ≡ true → P x) →
    (all : List X → Bool) → ((x : X) (xs : List X) → all (x ∷ xs) ≡ (test x && all xs)) → (xs : List X) (i : ℕ)
    (d : X) →
    all xs ≡ true → i < length xs → P (get_or xs i d)
element-at test P known all next xs i d h low =
    known (get_or xs i d) (holds-at test all next xs i (get_or xs i d) h low
    (get_or_default xs i d (get_or xs i d) low))
