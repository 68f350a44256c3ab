-- Where the rank of something is among rows that are in order.
use Rattle.std.proofs.Common.{◌≡◌, ℕ, zero, suc, ◌<◌, ◌≤◌, Bool, true, false, List, [], ◌∷◌, length, map}
use Rattle.std.proofs.Common.{refl, sym, ap, ◌∙◌, arith}
use Rattle.std.specs.Ordering.{is_lt, is_eq}
use Rattle.std.specs.declared.cmp.Ordering.{Ordering}
use Rattle.std.specs.declared.cmp.Ordering.TheVariants.{Less, Greater}
use Rattle.std.proofs.lemmas.Bool.{both_ways}
use Rattle.ck_kinds.specs.CallOrder.{AllAre, IsRank}
use Rattle.ck_tables.specs.Rows.{IsRow}

not_both : (o : Ordering) → is_lt o ≡ false → o ≡ Less → ⊥
not_both o high low = both_ways (is_lt o) high (ap is_lt low)

pub same_rank : {X : Type 0} (compare : X → Ordering) (xs : List X) (n m : ℕ) (b d : Bool) → IsRank compare xs n b
    → IsRank compare xs m d → (n ≡ m) × (b ≡ d)
same_rank compare [] n m b d one other = (one.0 ∙ sym other.0, one.1 ∙ sym other.1)
same_rank compare (x ∷ xs) zero zero b d one other = (refl, one.1 ∙ sym other.1)
same_rank compare (x ∷ xs) zero (suc m) b d one other = absurd (not_both (compare x) one.0 other.0)
same_rank compare (x ∷ xs) (suc n) zero b d one other = absurd (not_both (compare x) other.0 one.0)
same_rank compare (x ∷ xs) (suc n) (suc m) b d one other =
    let rest = same_rank compare xs n m b d one.1 other.1 in (ap suc rest.0, rest.1)

module _ {X Y : Type 0} (compare : Y → Ordering) (g : X → Y) where
  later : (y : X) (ys : List X) (k : ℕ) (x : X) → IsRow (y ∷ ys) (suc k) x → IsRow ys k x
  later y ys k x row = let h = row.within in record { within = omega arith; is = row.is }

  all-at : (o : Ordering) (xs : List X) (k : ℕ) (x : X) → AllAre o compare (map g xs) → IsRow xs k x
      → compare (g x) ≡ o
  all-at o [] k x all row = let h = row.within in absurd (omega (arith, h))
  all-at o (y ∷ ys) zero x all row = ap (λ z. compare (g z)) (sym (row.is y)) ∙ all.0
  all-at o (y ∷ ys) (suc k) x all row = all-at o ys k x all.1 (later y ys k x row)

  -- what is less is before the rank
  pub rank-less : (xs : List X) (k n : ℕ) (b : Bool) (x : X) → IsRank compare (map g xs) n b → IsRow xs k x
      → is_lt (compare (g x)) ≡ true → k < n
  rank-less [] k n b x rank row less = let h = row.within in absurd (omega (arith, h))
  rank-less (y ∷ ys) zero zero b x rank row less =
      absurd (both_ways (is_lt (compare (g y))) rank.0 (ap (λ z. is_lt (compare (g z))) (row.is y) ∙ less))
  rank-less (y ∷ ys) zero (suc n) b x rank row less = omega arith
  rank-less (y ∷ ys) (suc k) zero b x rank row less =
      let greater = all-at Greater ys k x rank.2 (later y ys k x row) in
      absurd (both_ways (is_lt (compare (g x))) (ap is_lt greater) less)
  rank-less (y ∷ ys) (suc k) (suc n) b x rank row less =
      let h = rank-less ys k n b x rank.1 (later y ys k x row) less in omega (arith, h)

  -- and what isn't less isn't
  pub rank-other : (xs : List X) (k n : ℕ) (b : Bool) (x : X) → IsRank compare (map g xs) n b → IsRow xs k x
      → is_lt (compare (g x)) ≡ false → n ≤ k
  rank-other [] k n b x rank row high = let h = row.within in absurd (omega (arith, h))
  rank-other (y ∷ ys) k zero b x rank row high = omega arith
  rank-other (y ∷ ys) zero (suc n) b x rank row high =
      absurd (not_both (compare (g x)) high (ap (λ z. compare (g z)) (sym (row.is y)) ∙ rank.0))
  rank-other (y ∷ ys) (suc k) (suc n) b x rank row high =
      let h = rank-other ys k n b x rank.1 (later y ys k x row) high in omega (arith, h)

  -- the row of the rank's number
  pub rank-here : (xs : List X) (n : ℕ) (b : Bool) (x : X) → IsRank compare (map g xs) n b → IsRow xs n x
      → b ≡ is_eq (compare (g x))
  rank-here [] n b x rank row = let h = row.within in absurd (omega (arith, h))
  rank-here (y ∷ ys) zero b x rank row = rank.1 ∙ ap (λ z. is_eq (compare (g z))) (row.is y)
  rank-here (y ∷ ys) (suc n) b x rank row = rank-here ys n b x rank.1 (later y ys n x row)

  pub rank-past : (xs : List X) (n : ℕ) (b : Bool) → IsRank compare (map g xs) n b → length xs ≤ n → b ≡ false
  rank-past [] n b rank past = rank.1
  rank-past (y ∷ ys) zero b rank past = absurd (omega (arith, past))
  rank-past (y ∷ ys) (suc n) b rank past = rank-past ys n b rank.1 (omega (arith, past))

  pub rank-within : (xs : List X) (n : ℕ) (b : Bool) → IsRank compare (map g xs) n b → n ≤ length xs
  rank-within [] n b rank = let e = rank.0 in omega (arith, e)
  rank-within (y ∷ ys) zero b rank = omega arith
  rank-within (y ∷ ys) (suc n) b rank = let h = rank-within ys n b rank.1 in omega (arith, h)
