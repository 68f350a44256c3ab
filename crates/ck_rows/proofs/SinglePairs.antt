-- One pair that is added to a relation, and the relation without a pair.
use Rattle.std.proofs.Common.{◌≡◌, ℕ, ◌*◌, ◌%◌, ◌^◌, ◌<◌, ◌⊎◌, ◌↔◌, List, [], ◌∷◌, length, get_or, set, replicate}
use Rattle.std.proofs.Common.{bit_or, sym, ap, ◌∙◌, subst, inl, inr, arith, get_or-set_same, get_or-set_other}
use Rattle.std.specs.Int.{bit_at, w16}
use Rattle.std.proofs.lemmas.Bool.{cases_eq}
use Rattle.std.proofs.lemmas.List.{get_or-replicate}
use Rattle.std.proofs.lemmas.Nat.Bits.{bit_at-zero, bit_at_set_same, bit_at_set_other}
use Rattle.ck_rows.specs.declared.rows.Rows.{Rows}
use Rattle.ck_rows.specs.Relation.{Pair, pair, pairs, rows_of, HaveSamePairs, Relates}
use Rattle.ck_rows.proofs.Choices.{Contains-from_In, In-from_Contains}
use Rattle.ck_rows.proofs.PairLists.{pairs-bits, relates, HaveSamePairs-from}

module _ (rows : Rows) (i t : ℕ) (whole : length rows.mask ≡ 16) (from : i < 16) (to : t < 16) where
  -- the mask i with bit t set, as the code computes it
  abbrev mask : ℕ
  mask = bit_or (get_or rows.mask i 0) (1 * 2 ^ t % 2 ^ 16)

  abbrev now : Rows
  now = rows_of (set rows.mask i mask)

  here : get_or now.mask i 0 ≡ mask
  here = get_or-set_same rows.mask i mask 0 (omega arith)

  there : (a b : ℕ) → (a ≡ i) × (b ≡ t) → Relates now a b
  there a b e =
      let same : pair i t ≡ pair a b = cc in
      let bit = ap (λ m. bit_at m t) here ∙ bit_at_set_same w16 (get_or rows.mask i 0) t to in
      let it : Relates now i t = record { from_below = from; to_below = to; bit = bit } in
      subst (λ (p : Pair). Relates now p.0 p.1) same it

  -- it is this pair, or its bit is as it was
  same-or-kept : (a b : ℕ) → ((a ≡ i) × (b ≡ t)) ⊎ (bit_at (get_or now.mask a 0) b ≡ bit_at (get_or rows.mask a 0) b)
  same-or-kept a b = elim (cases_eq a i) [
    | inr ne ↦ inr (ap (λ m. bit_at m b) (get_or-set_other rows.mask i a mask 0 ne))
    | inl e ↦ elim (cases_eq b t) [
      | inl f ↦ inl (e, f)
      | inr ne ↦ inr (subst (λ a. bit_at (get_or now.mask a 0) b ≡ bit_at (get_or rows.mask a 0) b) (sym e)
          (ap (λ m. bit_at m b) here ∙ bit_at_set_other w16 (get_or rows.mask i 0) t to b ne))
    ]
  ]

  pub added : (a b : ℕ) → Relates now a b ↔ (Relates rows a b ⊎ ((a ≡ i) × (b ≡ t)))
  added a b = elim (same-or-kept a b) [
    | inl e ↦ (λ r. inr e, λ h. there a b e)
    | inr same ↦ (
      λ r. inl (relates rows r (sym same ∙ r.bit)),
      λ h. elim h [ inl r ↦ relates now r (same ∙ r.bit) | inr e ↦ there a b e ],
    )
  ]

  abbrev all : List Pair
  all = pair i t ∷ pairs rows

  pub added-pairs : HaveSamePairs (pairs now) all
  added-pairs = HaveSamePairs-from now all (λ a b. (
    λ r. Contains-from_In all (pair a b) (elim ((added a b).0 r) [
      | inl h ↦ inr (In-from_Contains (pairs rows) (pair a b) ((pairs-bits rows a b).1 h))
      | inr e ↦ let same : pair i t ≡ pair a b = cc in inl same
    ]),
    λ h. (added a b).1 (elim (In-from_Contains all (pair a b) h) [
      | inl e ↦ inr (sym (ap (λ p. p.0) e), sym (ap (λ p. p.1) e))
      | inr r ↦ inl ((pairs-bits rows a b).0 (Contains-from_In (pairs rows) (pair a b) r))
    ]),
  ))

pub none : (i j : ℕ) → Relates (rows_of (replicate 16 0)) i j → ⊥
none i j r = omega (arith, r.bit, ap (λ m. bit_at m j) (get_or-replicate 16 i 0 0 r.from_below), bit_at-zero j)

pub none-pairs : HaveSamePairs (pairs (rows_of (replicate 16 0))) []
none-pairs =
    HaveSamePairs-from (rows_of (replicate 16 0)) []
    (λ i j. (λ r. absurd (none i j r), λ h. absurd (In-from_Contains [] (pair i j) h)))
