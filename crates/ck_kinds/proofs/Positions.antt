-- The first of a list that passes a test.
use Rattle.std.proofs.Common.{◌≡◌, ℕ, suc, ◌+◌, Bool, true, false, List, ◌∷◌, length, Option, Some, None}
use Rattle.std.proofs.Common.{sym, ap, ◌∙◌, inl, inr, cond, arith}
use Rattle.std.specs.List.{position, position_or_len}
use Rattle.std.specs.Option.{option_map}
use Rattle.std.specs.Prelude.{nat_lt, not}
use Rattle.std.proofs.lemmas.Bool.{cases_lt, lt-ltb, le-ltb, cond-true, cond-false}

-- `position`, where so many fail first
abbrev found_at : ℕ → ℕ → Option ℕ
found_at k n = cond (nat_lt k n) (Some k) None

found_at-next : (k n : ℕ) → found_at (1 + k) (suc n) ≡ option_map suc (found_at k n)
found_at-next k n = elim (cases_lt k n) [
  | inl low ↦
      cond-true _ _ _ (lt-ltb (1 + k) (suc n) (omega arith)) ∙ ap Some (omega arith)
      ∙ sym (ap (option_map suc) (cond-true _ _ _ (lt-ltb k n low)))
  | inr past ↦
      cond-false _ _ _ (le-ltb (1 + k) (suc n) (omega arith))
      ∙ sym (ap (option_map suc) (cond-false _ _ _ (le-ltb k n past)))
]

module _ {X : Type 0} (p : X → Bool) where
  pub position-here : (x : X) (xs : List X) → p x ≡ true → position p (x ∷ xs) ≡ Some 0
  position-here x xs e =
      ap (λ b. found_at (cond (not b) (1 + position_or_len p xs) 0) (suc (length xs))) e
      ∙ cond-true _ _ _ (lt-ltb 0 (suc (length xs)) (omega arith))

  pub position-later : (x : X) (xs : List X) → p x ≡ false → position p (x ∷ xs) ≡ option_map suc (position p xs)
  position-later x xs e =
      ap (λ b. found_at (cond (not b) (1 + position_or_len p xs) 0) (suc (length xs))) e
      ∙ found_at-next (position_or_len p xs) (length xs)
