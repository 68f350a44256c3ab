-- What the searches `position` and `find` give.
use Rattle.std.proofs.Common.{◌≡◌, ℕ, ◌<◌, Bool, true, false, Option, Some, None, ◌⊎◌, List, [], ◌∷◌, ◌==◌, length}
use Rattle.std.proofs.Common.{get_or, refl, ap, inl, inr, eqb-true, arith}
use Rattle.std.specs.List.{find, position, position_or_len}
use Rattle.std.specs.Option.{option_eq}
use Rattle.std.proofs.lemmas.Bool.{cases_lt, lt-ltb, le-ltb, cond-true, cond-false}
use Rattle.std.proofs.lemmas.List.Sums.{passes_at_first, fails_before_first}

-- `position` gives an index where the test passes, or the test fails everywhere
pub position_cases : {X : Type 0} (p : X → Bool) (xs : List X) (d : X)
    → ((i : ℕ) × (position p xs ≡ Some i) × (i < length xs) × (p (get_or xs i d) ≡ true))
    ⊎ ((position p xs ≡ None) × ((k : ℕ) → k < length xs → p (get_or xs k d) ≡ false))
position_cases p xs d = elim (cases_lt (position_or_len p xs) (length xs)) [
  | inl within ↦ inl (position_or_len p xs, cond-true _ _ _ (lt-ltb _ _ within), within, passes_at_first p xs d within)
  | inr past ↦ inr (cond-false _ _ _ (le-ltb _ _ past), λ k h. fails_before_first p xs k d (omega arith))
]

-- where the test fails everywhere, nothing is found
pub find_none : {X : Type 0} (p : X → Bool) (xs : List X) → ((x : X) → p x ≡ false) → find p xs ≡ None
find_none p [] fails = refl
find_none p (x ∷ xs) fails = rw (fails x) (find_none p xs fails)

-- an answer that tests as a number is that number
pub same_number : (o : Option ℕ) (k : ℕ) → option_eq ◌==◌ o (Some k) ≡ true → o ≡ Some k
same_number None k e = absurd (cc)
same_number (Some j) k e = ap Some (eqb-true j k e)
