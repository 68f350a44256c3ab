-- Tables without pairs.
use Rattle.std.proofs.Common.{◌≡◌, ℕ, ◌+◌, ◌<◌, ◌≤◌, List, length, get_or, set, replicate, refl, ap, ◌∙◌, subst, inl}
use Rattle.std.proofs.Common.{inr, arith}
use Rattle.std.specs.Int.{bit_at}
use Rattle.std.proofs.lemmas.Bool.{cases_eq, cases_lt}
use Rattle.std.proofs.lemmas.List.{get_or-replicate, get_or_past}
use Rattle.std.proofs.lemmas.Nat.Bits.{bit_at-zero}
use Rattle.ck_rows.specs.declared.rows.Rows.{Rows}
use Rattle.ck_rows.specs.Relation.{Relates}
use Rattle.ck_summary.specs.Solution.{rows_at, no_rows, HasNoPairs}
use Rattle.ck_summary.proofs.Additions.{rows_at-set_same, rows_at-set_other}

no_bit : (m j : ℕ) → m ≡ 0 → bit_at m j ≡ 1 → ⊥
no_bit m j zero bit = let none : bit_at m j ≡ 0 = ap (λ n. bit_at n j) zero ∙ bit_at-zero j in omega (arith, none, bit)

pub no_rows-none : (a b : ℕ) → Relates no_rows a b → ⊥
no_rows-none a b r = no_bit 0 b refl r.bit

pub rows_at_past : (table : List Rows) (p : ℕ) → length table ≤ p → rows_at table p ≡ no_rows
unfolding rows_at
rows_at_past table p past = get_or_past table p no_rows past

pub HasNoPairs-from_places : (table : List Rows) →
    ((p a b : ℕ) → p < length table → Relates (rows_at table p) a b → ⊥) → HasNoPairs table
HasNoPairs-from_places table none p a b r = elim (cases_lt p (length table)) [
  | inl below ↦ none p a b below r
  | inr past ↦ no_rows-none a b (subst (λ rows. Relates rows a b) (rows_at_past table p past) r)
]

pub rows_at-get_or : (table : List Rows) (p : ℕ) → rows_at table p ≡ get_or table p no_rows
unfolding rows_at
rows_at-get_or table p = refl

pub rows_at-replicate : (n p : ℕ) (rows : Rows) → p < n → rows_at (replicate n rows) p ≡ rows
unfolding rows_at
rows_at-replicate n p rows below = get_or-replicate n p rows no_rows below

-- one more relation is cleared
pub cleared_more : (table : List Rows) (i : ℕ) (none : Rows) → i < length table → ((a b : ℕ) → Relates none a b → ⊥) →
    ((p a b : ℕ) → p < i → Relates (rows_at table p) a b → ⊥) → (p a b : ℕ) → p < i + 1 →
    Relates (rows_at (set table i none) p) a b → ⊥
cleared_more table i none within empty before p a b below r = elim (cases_eq p i) [
  | inl same ↦ empty a b
      (subst (λ rows. Relates rows a b) (ap (rows_at (set table i none)) same ∙ rows_at-set_same table i none within) r)
  | inr ne ↦ before p a b (omega (arith, below, ne))
      (subst (λ rows. Relates rows a b) (rows_at-set_other table i p none ne) r)
]
