-- What is in a list that takes from each x of one list those y of another that pass a test.
use Rattle.std.proofs.Common.{◌≡◌, ℕ, zero, suc, ◌<◌, ◌⊎◌, Bool, true, false, cond, List, [], ◌∷◌, length, get_or}
use Rattle.std.proofs.Common.{map, refl, sym, ap, subst, inl, inr, arith}
use Rattle.std.specs.List.{Contains, filter, flat_map}
use Rattle.std.proofs.lemmas.List.Elements.{Contains-append_left, Contains-append_right, Contains-append_cases}

-- x is one of the elements
abbrev pub In : {X : Type 0} → X → List X → Type 0
In x [] = ⊥
In x (y ∷ ys) = (y ≡ x) ⊎ In x ys

pub Contains-from_In : {X : Type 0} → (xs : List X) (x : X) → In x xs → Contains xs x
Contains-from_In [] x h = absurd h
Contains-from_In (y ∷ ys) x (inl e) = (zero, omega arith, e)
Contains-from_In (y ∷ ys) x (inr r) = let h = Contains-from_In ys x r in (suc h.0, omega (arith, h.1), h.2)

pub In-from_Contains : {X : Type 0} → (xs : List X) (x : X) → Contains xs x → In x xs
In-from_Contains xs x h = at xs h.0 x h.1 h.2 where
  at : {X : Type 0} → (xs : List X) (k : ℕ) (x : X) → k < length xs → get_or xs k x ≡ x → In x xs
  at [] k x below e = omega arith
  at (y ∷ ys) zero x below e = inl e
  at (y ∷ ys) (suc k) x below e = inr (at ys k x (omega arith) e)

-- ---- those that pass a test, under a function

module _ {X Y : Type 0} (f : X → Y) (t : X → Bool) where
  pub In-chosen : (xs : List X) (x : X) → In x xs → t x ≡ true → In (f x) (map f (filter t xs))
  In-chosen [] x h passes = h
  In-chosen (y ∷ ys) x h passes = at (t y) refl h (λ r. In-chosen ys x r passes) where
    at : (b : Bool) → t y ≡ b → In x (y ∷ ys) → (In x ys → In (f x) (map f (filter t ys))) →
        In (f x) (map f (cond b (y ∷ filter t ys) (filter t ys)))
    at true e (inl same) rest = inl (ap f same)
    at true e (inr r) rest = inr (rest r)
    at false e (inl same) rest = absurd (cc)
    at false e (inr r) rest = rest r

  abbrev IsChosen : List X → Y → Type 0
  IsChosen xs z = (x : X) × In x xs × (t x ≡ true) × (f x ≡ z)

  pub chosen-cases : (xs : List X) (z : Y) → In z (map f (filter t xs)) → IsChosen xs z
  chosen-cases [] z h = absurd h
  chosen-cases (x ∷ xs) z h = at (t x) refl (chosen-cases xs z) h where
    later : IsChosen xs z → IsChosen (x ∷ xs) z
    later c = (c.0, inr c.1, c.2, c.3)

    at : (b : Bool) → t x ≡ b → (In z (map f (filter t xs)) → IsChosen xs z) →
        In z (map f (cond b (x ∷ filter t xs) (filter t xs))) → IsChosen (x ∷ xs) z
    at true e rest (inl is) = (x, inl refl, e, is)
    at true e rest (inr r) = later (rest r)
    at false e rest h = later (rest h)

-- ---- the lists that a function gives, one after the other

module _ {X Y : Type 0} (f : X → List Y) where
  pub Contains-flat_map : (xs : List X) (x : X) (y : Y) → In x xs → In y (f x) → Contains (flat_map f xs) y
  Contains-flat_map [] x y h g = absurd h
  Contains-flat_map (z ∷ zs) x y (inl e) g =
      Contains-append_left (f z) _ y (Contains-from_In (f z) y (subst (λ w. In y (f w)) (sym e) g))
  Contains-flat_map (z ∷ zs) x y (inr r) g = Contains-append_right (f z) _ y (Contains-flat_map zs x y r g)

  pub flat_map-cases : (xs : List X) (y : Y) → Contains (flat_map f xs) y → (x : X) × In x xs × In y (f x)
  flat_map-cases [] y h = absurd (In-from_Contains [] y h)
  flat_map-cases (x ∷ xs) y h = elim (Contains-append_cases (f x) (flat_map f xs) y h) [
    | inl here ↦ (x, inl refl, In-from_Contains (f x) y here)
    | inr r ↦ let rest = flat_map-cases xs y r in (rest.0, inr rest.1, rest.2)
  ]
