-- Lists whose elements are numbered from the last on, as the rows of a vector are where the latest is first.
use Rattle.std.proofs.Common.{◌≡◌, ℕ, suc, ◌-◌, ◌<◌, Bool, true, false, List, [], ◌∷◌, ◌++◌, length, get_or}
use Rattle.std.proofs.Common.{refl, ap}
use Rattle.std.proofs.Common.{◌∙◌, arith}
use Rattle.std.specs.Prelude.{◌==◌, if◌then◌else◌, reverse}
use Rattle.std.proofs.lemmas.Bool.{eqb-true, eqb-false}
use Rattle.std.proofs.lemmas.List.{get_or-reverse, length-reverse, reverse-append}

-- the element of a number: of how many are before it
abbrev pub at_number : {X : Type 0} → List X → ℕ → X → X
at_number [] k d = d
at_number (x ∷ xs) k d = if k == length xs then x else at_number xs k d

module _ {X : Type 0} where
  pub reverse_push : (xs : List X) (x : X) → reverse (xs ++ x ∷ []) ≡ x ∷ reverse xs
  reverse_push xs x = reverse-append xs (x ∷ [])

  at-step : (x d : X) (xs : List X) (k : ℕ) (b : Bool) → (k == length xs) ≡ b → k < suc (length xs)
      → (k < length xs → at_number xs k d ≡ get_or xs (length xs - 1 - k) d)
      → (if b then x else at_number xs k d) ≡ get_or (x ∷ xs) (length (x ∷ xs) - 1 - k) d
  at-step x d xs k true is below more =
      let same : k ≡ length xs = eqb-true k (length xs) is in
      let first : length (x ∷ xs) - 1 - k ≡ 0 = omega (arith, same) in
      rw first refl
  at-step x d xs k false is below more =
      let less : k < length xs = let ne = eqb-false k (length xs) is in omega (arith, ne, below) in
      let later : length (x ∷ xs) - 1 - k ≡ suc (length xs - 1 - k) = omega (arith, less) in
      rw later (more less)

  at-index : (xs : List X) (k : ℕ) (d : X) → k < length xs → at_number xs k d ≡ get_or xs (length xs - 1 - k) d
  at-index [] k d below = absurd (omega (arith, below))
  at-index (x ∷ xs) k d below = at-step x d xs k (k == length xs) refl below (at-index xs k d)

  -- the element of a vector by its index
  pub at_reverse : (xs : List X) (k : ℕ) (d : X) → k < length xs → at_number (reverse xs) k d ≡ get_or xs k d
  at_reverse xs k d below =
      let size = length-reverse xs in
      let there : length (reverse xs) - 1 - k < length xs = omega (arith, size, below) in
      let index : length xs - 1 - (length (reverse xs) - 1 - k) ≡ k = omega (arith, size, below) in
      at-index (reverse xs) k d (omega (arith, size, below))
      ∙ (get_or-reverse xs (length (reverse xs) - 1 - k) d there ∙ ap (λ i. get_or xs i d) index)
