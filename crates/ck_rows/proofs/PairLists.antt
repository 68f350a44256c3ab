-- What is in the list of a relation's pairs, and in a composition of such lists.
use Rattle.std.proofs.Common.{◌≡◌, ℕ, ◌<◌, ◌↔◌, ◌⊎◌, List, ◌++◌, slice_index, Bool, eqb, refl, sym, ◌∙◌, subst, inl}
use Rattle.std.proofs.Common.{inr, arith}
use Rattle.std.specs.List.{Contains}
use Rattle.std.specs.Int.{bit_at}
use Rattle.std.proofs.lemmas.Bool.{eq-eqb, eqb-true}
use Rattle.std.proofs.lemmas.List.Elements.{Contains-append_left, Contains-append_right, Contains-append_cases}
use Rattle.std.proofs.lemmas.List.FromFn.{get_or-range_with_len, length-range_with_len}
use Rattle.ck_rows.specs.declared.rows.Rows.{Rows}
use Rattle.ck_rows.specs.Relation.{Pair, pair, sixteen, pairs_of_mask, pairs, composition, HaveSamePairs, Relates}
use Rattle.ck_rows.proofs.Choices.{In, Contains-from_In, In-from_Contains, In-chosen, chosen-cases, Contains-flat_map}
use Rattle.ck_rows.proofs.Choices.{flat_map-cases}

In-sixteen : (i : ℕ) → In i sixteen ↔ i < 16
unfolding sixteen
In-sixteen i = (
  λ h. let at = Contains-from_In sixteen i h in
      let short : at.0 < 16 = omega (arith, at.1, length-range_with_len 0 16) in
      omega (arith, get_or-range_with_len 0 16 at.0 i short, at.2, short),
  λ below. let at = get_or-range_with_len 0 16 i i below in
      In-from_Contains sixteen i (i, omega (arith, length-range_with_len 0 16), at ∙ omega arith),
)

abbrev has_bit : Rows → ℕ → ℕ → Bool
has_bit rows i j = eqb (bit_at (slice_index rows.mask i) j) 1

pub pairs-bits : (rows : Rows) (i j : ℕ) → Contains (pairs rows) (pair i j) ↔ Relates rows i j
unfolding pairs pairs_of_mask
pairs-bits rows i j = (
  λ h. let row = flat_map-cases _ sixteen (pair i j) h in
      let bit = chosen-cases (pair row.0) (has_bit rows row.0) sixteen (pair i j) row.2 in
      let found : Relates rows row.0 bit.0 = record {
        from_below = (In-sixteen row.0).0 row.1;
        to_below = (In-sixteen bit.0).0 bit.1;
        bit = eqb-true _ 1 bit.2;
      } in
      subst (λ (p : Pair). Relates rows p.0 p.1) bit.3 found,
  λ r. let chosen = In-chosen (pair i) (has_bit rows i) sixteen j ((In-sixteen j).1 r.to_below) (eq-eqb _ 1 r.bit) in
      Contains-flat_map _ sixteen i (pair i j) ((In-sixteen i).1 r.from_below) chosen,
)

-- another relation has the same pair, where its bit is set
pub relates : {rows : Rows} (now : Rows) {i j : ℕ} → Relates rows i j →
    bit_at (slice_index now.mask i) j ≡ 1 → Relates now i j
relates now r bit = record { from_below = r.from_below; to_below = r.to_below; bit = bit }

-- ---- lists with the same pairs, from what relates

pub HaveSamePairs-from : (rows : Rows) (ps : List Pair) →
    ((i j : ℕ) → Relates rows i j ↔ Contains ps (pair i j)) → HaveSamePairs (pairs rows) ps
HaveSamePairs-from rows ps same p =
    (λ h. (same p.0 p.1).0 ((pairs-bits rows p.0 p.1).0 h), λ h. (pairs-bits rows p.0 p.1).1 ((same p.0 p.1).1 h))

pub HaveSamePairs-union : (now old from : Rows) → ((i j : ℕ) → Relates now i j ↔ (Relates old i j ⊎ Relates from i j)) →
    HaveSamePairs (pairs now) (pairs old ++ pairs from)
HaveSamePairs-union now old from joined = HaveSamePairs-from now (pairs old ++ pairs from) (λ i j. (
  λ r. elim ((joined i j).0 r) [
    | inl a ↦ Contains-append_left (pairs old) (pairs from) (pair i j) ((pairs-bits old i j).1 a)
    | inr b ↦ Contains-append_right (pairs old) (pairs from) (pair i j) ((pairs-bits from i j).1 b)
  ],
  λ h. (joined i j).1 (elim (Contains-append_cases (pairs old) (pairs from) (pair i j) h) [
    | inl a ↦ inl ((pairs-bits old i j).0 a)
    | inr b ↦ inr ((pairs-bits from i j).0 b)
  ]),
))

-- ---- the composition of two relations

module _ (first second now : Rows) where
  abbrev follows : Pair → Pair → Bool
  follows p q = eqb p.1 q.0

  pub HaveSamePairs-composition : ((i j k : ℕ) → Relates first i j → Relates second j k → Relates now i k) →
      ((i k : ℕ) → Relates now i k → (j : ℕ) × Relates first i j × Relates second j k) →
      HaveSamePairs (pairs now) (composition (pairs first) (pairs second))
  unfolding composition
  HaveSamePairs-composition composed only = HaveSamePairs-from now (composition (pairs first) (pairs second)) (λ i k. (
    λ r. let through = only i k r in
        let p = pair i through.0 in
        let q = pair through.0 k in
        Contains-flat_map _ (pairs first) p (pair i k)
        (In-from_Contains _ p ((pairs-bits first i through.0).1 through.1))
        (In-chosen (λ q. pair i q.1) (follows p) (pairs second) q
        (In-from_Contains _ q ((pairs-bits second through.0 k).1 through.2)) (eq-eqb through.0 through.0 refl)),
    λ h. let of_first = flat_map-cases _ (pairs first) (pair i k) h in
        let p = of_first.0 in
        let of_second = chosen-cases (λ q. pair p.0 q.1) (follows p) (pairs second) (pair i k) of_first.2 in
        let q = of_second.0 in
        let meet : p.1 ≡ q.0 = eqb-true p.1 q.0 of_second.2 in
        let left : Relates first p.0 p.1 = (pairs-bits first p.0 p.1).0 (Contains-from_In _ p of_first.1) in
        let right : Relates second q.0 q.1 = (pairs-bits second q.0 q.1).0 (Contains-from_In _ q of_second.1) in
        subst (λ (r : Pair). Relates now r.0 r.1) of_second.3
        (composed p.0 p.1 q.1 left (subst (λ m. Relates second m q.1) (sym meet) right)),
  ))
