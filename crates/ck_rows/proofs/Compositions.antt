-- The composition of two relations: the masks of the second one are joined, each where a bit of the first one says so.
use Rattle.std.proofs.Common.{◌≡◌, ◌≤◌, ℕ, ◌+◌, ◌*◌, ◌<◌, ◌↔◌, List, length, get_or, map, bit_or, sym, ap, ◌∙◌, inl}
use Rattle.std.proofs.Common.{inr, arith, below_more, zero, suc, ◌/◌, ◌%◌, [], ◌∷◌, replicate, bit_and, ◌^◌}
use Rattle.std.proofs.Common.{mod-eq_of_lt, refl, subst}
use Rattle.std.specs.Int.{bit_at}
use Rattle.std.specs.Simd.Lanes.{zip2}
use Rattle.std.proofs.lemmas.List.{get_or-map, length-map}
use Rattle.std.proofs.Math.Nat.{mul-le-mul_left}
use Rattle.ck_rows.specs.declared.rows.Rows.{Rows}
use Rattle.ck_rows.specs.Relation.{rows_of, Relates}
use Rattle.ck_rows.proofs.Unions.{Relates-union}
use Rattle.std.proofs.lemmas.Nat.Bits.{bit_at-lt, bit_at-zero, shr_and_one}

times-bits : (m j s k : ℕ) → bit_at (bit_at m j * s) k ≡ 1 ↔ ((bit_at m j ≡ 1) × (bit_at s k ≡ 1))
times-bits m j s k = by_bit (bit_at m j) s k (bit_at-lt m j) where
  by_bit : (b s k : ℕ) → b < 2 → bit_at (b * s) k ≡ 1 ↔ ((b ≡ 1) × (bit_at s k ≡ 1))
  by_bit zero s k below = (λ h. absurd (omega (arith, h, bit_at-zero k)), λ h. absurd (omega (arith, h.0)))
  by_bit (suc b) s k below =
      let none : 0 ≡ b = omega arith in
      let once : 1 * s ≡ s = omega arith in
      let same : suc b * s ≡ s = subst (λ n. suc n * s ≡ s) none once in
      (λ h. (omega arith, sym (ap (λ n. bit_at n k) same) ∙ h), λ h. ap (λ n. bit_at n k) same ∙ h.1)

-- the products of a number with one bit of each lane, as the vectors compute them
pub taken_lanes : (masks : List ℕ) (n j s : ℕ) → length masks ≡ n → s < 2 ^ 16 →
    zip2 (λ x y. x * y % 2 ^ 16) (zip2 bit_and (zip2 (λ x y. x / 2 ^ y) masks (replicate n j)) (replicate n 1))
    (replicate n s)
    ≡ map (λ m. bit_at m j * s) masks
taken_lanes [] n j s whole fits = refl
taken_lanes (m ∷ ms) zero j s whole fits = absurd (omega arith)
taken_lanes (m ∷ ms) (suc n) j s whole fits =
    let rest = taken_lanes ms n j s (omega arith) fits in
    let at_most_one : bit_at m j ≤ 1 = omega (arith, bit_at-lt m j) in
    let product : bit_at m j * s < 2 ^ 16 = omega (arith, fits, mul-le-mul_left s at_most_one) in
    let lane : bit_and (m / 2 ^ j) 1 * s % 2 ^ 16 ≡ bit_at m j * s =
    ap (λ b. b * s % 2 ^ 16) (shr_and_one m j) ∙ mod-eq_of_lt product in
    cc

-- the pairs that lead through the things below n are composed, and no others
pub record AreComposed (first second now : Rows) (n : ℕ) : Type 0 where
  pub composed : (j : ℕ) → j < n → (i k : ℕ) → Relates first i j → Relates second j k → Relates now i k
  pub only : (i k : ℕ) → Relates now i k → (j : ℕ) × Relates first i j × Relates second j k

module _ (first second : Rows) (n : ℕ) (whole : length first.mask ≡ 16) (below : n < 16) where
  -- the mask of n in the second relation, in each lane in which the first one leads to n
  abbrev mask : ℕ
  mask = get_or second.mask n 0

  abbrev through : List ℕ
  through = map (λ m. bit_at m n * mask) first.mask

  Relates-through : (i k : ℕ) → Relates (rows_of through) i k ↔ (Relates first i n × Relates second n k)
  Relates-through i k = (
    λ r. let both = (times-bits (get_or first.mask i 0) n mask k).0 (sym (lane r.from_below) ∙ r.bit) in (
      record { from_below = r.from_below; to_below = below; bit = both.0 },
      record { from_below = below; to_below = r.to_below; bit = both.1 },
    ),
    λ h. record {
      from_below = h.0.from_below;
      to_below = h.1.to_below;
      bit = lane h.0.from_below ∙ (times-bits (get_or first.mask i 0) n mask k).1 (h.0.bit, h.1.bit);
    },
  ) where
    lane : i < 16 → bit_at (get_or through i 0) k ≡ bit_at (bit_at (get_or first.mask i 0) n * mask) k
    lane h = ap (λ m. bit_at m k) (get_or-map (λ m. bit_at m n * mask) first.mask i 0 0 (omega arith))

  pub AreComposed-next : (now next : List ℕ) → length now ≡ 16 → next ≡ zip2 bit_or now through →
      AreComposed first second (rows_of now) n → AreComposed first second (rows_of next) (n + 1)
  AreComposed-next now next now_whole is s =
      let through_whole = length-map first.mask (λ m. bit_at m n * mask) ∙ whole in
      let union = Relates-union now through next now_whole through_whole is in
      record {
        composed = below_more _ n (λ j h i k a b. (union i k).1 (inl (s.composed j h i k a b)))
            (λ i k a b. (union i k).1 (inr ((Relates-through i k).1 (a, b))));
        only = λ i k r. elim ((union i k).0 r) [
          | inl h ↦ s.only i k h
          | inr h ↦ let both = (Relates-through i k).0 h in (n, both.0, both.1)
        ];
      }
