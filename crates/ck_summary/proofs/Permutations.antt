-- The numbers in order, and two elements of a permutation that change places.
use Rattle.std.proofs.Common.{◌≡◌, ◌≢◌, ℕ, ◌+◌, ◌<◌, ◌≤◌, ◌^◌, List, length, set, get_or, sym, ap, ◌∙◌, subst, inl, inr}
use Rattle.std.proofs.Common.{arith, get_or-set_same, get_or-set_other}
use Rattle.std.proofs.lemmas.Bool.{cases_eq}
use Rattle.std.proofs.lemmas.List.{length-set}
use Rattle.ck_summary.specs.Listing.{IsInverse}

abbrev set_two : List ℕ → ℕ → ℕ → ℕ → ℕ → List ℕ
set_two xs i a k b = set (set xs i a) k b

length-two : (xs : List ℕ) (i a k b : ℕ) → length (set_two xs i a k b) ≡ length xs
length-two xs i a k b = length-set (set xs i a) k b ∙ length-set xs i a

read_last : (xs : List ℕ) (i a k b : ℕ) → k < length xs → get_or (set_two xs i a k b) k 0 ≡ b
read_last xs i a k b within = get_or-set_same (set xs i a) k b 0 (omega (arith, within, length-set xs i a))

read_first : (xs : List ℕ) (i a k b : ℕ) → i < length xs → i ≢ k → get_or (set_two xs i a k b) i 0 ≡ a
read_first xs i a k b within ne = get_or-set_other (set xs i a) k i b 0 ne ∙ get_or-set_same xs i a 0 within

read_other : (xs : List ℕ) (i a k b j : ℕ) → j ≢ i → j ≢ k → get_or (set_two xs i a k b) j 0 ≡ get_or xs j 0
read_other xs i a k b j ni nk = get_or-set_other (set xs i a) k j b 0 nk ∙ get_or-set_other xs i j a 0 ni

-- a read of a list that was written twice, by its three cases
by_place : (xs : List ℕ) (i a k b j : ℕ) (P : ℕ → Type 0) → i < length xs → k < length xs → (j ≡ k → P b) →
    (j ≢ k → j ≡ i → P a) → (j ≢ k → j ≢ i → P (get_or xs j 0)) → P (get_or (set_two xs i a k b) j 0)
by_place xs i a k b j P wi wk last first other = elim (cases_eq j k) [
  | inl e ↦ subst (λ x. P (get_or (set_two xs i a k b) x 0)) (sym e) (subst P (sym (read_last xs i a k b wk)) (last e))
  | inr ne ↦ elim (cases_eq j i) [
    | inl e ↦ subst (λ x. P (get_or (set_two xs i a k b) x 0)) (sym e)
        (subst P (sym (read_first xs i a k b wi (λ x. ne (e ∙ x)))) (first ne e))
    | inr ni ↦ subst P (sym (read_other xs i a k b j ni ne)) (other ne ni)
  ]
]

-- `point` is at `at` and `other` at `count` in a permutation, and they are to change places
record MaySwap (order place : List ℕ) (count point at other : ℕ) : Type 0 where
  inverse : IsInverse (record { order = order; place = place; count = count })
  within : point < length order
  at_below : at < length order
  count_below : count < length order
  other_below : other < length order
  is_at : at ≡ get_or place point 0
  at_holds : get_or order at 0 ≡ point
  is_other : other ≡ get_or order count 0
  other_at : get_or place other 0 ≡ count

may_swap : (order place : List ℕ) (count point at other : ℕ) →
    IsInverse (record { order = order; place = place; count = count }) → point < length order →
    at ≡ get_or place point 0 → count ≤ at → other ≡ get_or order count 0 → MaySwap order place count point at other
may_swap order place count point at other inv within is_at above is_other =
    let at_below : at < length order = subst (λ x. x < length order) (sym is_at) (inv.place_below point within) in
    let count_below : count < length order = omega (arith, above, at_below) in
    record {
      inverse = inv;
      within = within;
      at_below = at_below;
      count_below = count_below;
      other_below = subst (λ x. x < length order) (sym is_other) (inv.order_below count count_below);
      is_at = is_at;
      at_holds = ap (λ x. get_or order x 0) is_at ∙ inv.there point within;
      is_other = is_other;
      other_at = ap (λ x. get_or place x 0) is_other ∙ inv.back count count_below;
    }

place-below : (order place : List ℕ) → length place ≡ length order → (x : ℕ) → x < length order → x < length place
place-below order place same x within = omega (arith, within, same)

-- each element is at its place after the two changed
swapped-there : (order place : List ℕ) (count point at other : ℕ) → MaySwap order place count point at other →
    (p : ℕ) → p < length order →
    get_or (set_two order at other count point) (get_or (set_two place other at point count) p 0) 0 ≡ p
swapped-there order place count point at other s p below =
    let inv = s.inverse in
    by_place place other at point count p (λ x. get_or (set_two order at other count point) x 0 ≡ p)
    (place-below order place inv.same other s.other_below) (place-below order place inv.same point s.within)
    (λ e. read_last order at other count point s.count_below ∙ sym e)
    (λ ne e. read_first order at other count point s.at_below
    (λ same. ne (e ∙ (s.is_other ∙ (ap (λ x. get_or order x 0) (sym same) ∙ s.at_holds)))) ∙ sym e)
    (λ ne ni. read_other order at other count point (get_or place p 0)
    (λ same. ne (sym (inv.there p below) ∙ (ap (λ x. get_or order x 0) same ∙ s.at_holds)))
    (λ same. ni (sym (inv.there p below) ∙ (ap (λ x. get_or order x 0) same ∙ sym s.is_other))) ∙
    inv.there p below)

-- each place has its element after the two changed
swapped-back : (order place : List ℕ) (count point at other : ℕ) → MaySwap order place count point at other →
    (k : ℕ) → k < length order →
    get_or (set_two place other at point count) (get_or (set_two order at other count point) k 0) 0 ≡ k
swapped-back order place count point at other s k below =
    let inv = s.inverse in
    by_place order at other count point k (λ x. get_or (set_two place other at point count) x 0 ≡ k) s.at_below
    s.count_below
    (λ e. read_last place other at point count (place-below order place inv.same point s.within) ∙ sym e)
    (λ ne e. read_first place other at point count (place-below order place inv.same other s.other_below)
    (λ same. ne (e ∙ (s.is_at ∙ (ap (λ x. get_or place x 0) (sym same) ∙ s.other_at)))) ∙ sym e)
    (λ ne ni. read_other place other at point count (get_or order k 0)
    (λ same. ne (sym (inv.back k below) ∙ (ap (λ x. get_or place x 0) same ∙ s.other_at)))
    (λ same. ni (sym (inv.back k below) ∙ (ap (λ x. get_or place x 0) same ∙ sym s.is_at))) ∙
    inv.back k below)

-- `point` at `at` and `other` at `count` change places
pub swapped : (order place : List ℕ) (count point at other : ℕ) →
    IsInverse (record { order = order; place = place; count = count }) → point < length order →
    at ≡ get_or place point 0 → count ≤ at → other ≡ get_or order count 0 →
    IsInverse (record {
      order = set_two order at other count point;
      place = set_two place other at point count;
      count =
          count + 1;
    })
swapped order place count point at other inv within is_at above is_other =
    let n = length order in
    let s = may_swap order place count point at other inv within is_at above is_other in
    let lo = length-two order at other count point in
    let lp = length-two place other at point count in
    let w = place-below order place inv.same in
    record {
      same = lp ∙ (inv.same ∙ sym lo);
      small = omega (arith, inv.small, lo);
      few = omega (arith, s.count_below, lo);
      place_below = λ p below. subst (λ m. get_or (set_two place other at point count) p 0 < m) (sym lo)
          (by_place place other at point count p (λ x. x < n) (w other s.other_below) (w point within)
          (λ e. s.count_below) (λ ne e. s.at_below) (λ ne ni. inv.place_below p (omega (arith, below, lo))));
      order_below = λ k below. subst (λ m. get_or (set_two order at other count point) k 0 < m) (sym lo)
          (by_place order at other count point k (λ x. x < n) s.at_below s.count_below (λ e. within)
          (λ ne e. s.other_below) (λ ne ni. inv.order_below k (omega (arith, below, lo))));
      there = λ p below. swapped-there order place count point at other s p (omega (arith, below, lo));
      back = λ k below. swapped-back order place count point at other s k (omega (arith, below, lo));
    }

-- the numbers in their order, each at its own place
pub in_order : (order place : List ℕ) (n : ℕ) → n < 2 ^ 32 → length order ≡ n → length place ≡ n →
    ((k : ℕ) → k < n → get_or order k 0 ≡ k) → ((k : ℕ) → k < n → get_or place k 0 ≡ k) →
    IsInverse (record { order = order; place = place; count = 0 })
in_order order place n small lo lp at_order at_place =
    let within = λ (k : ℕ) (below : k < length order). let b : k < n = omega (arith, below, lo) in b in
    record {
      same = lp ∙ sym lo;
      small = omega (arith, small, lo);
      few = omega arith;
      place_below = λ p below. omega (arith, below, at_place p (within p below));
      order_below = λ k below. omega (arith, below, at_order k (within k below));
      there = λ p below. ap (λ x. get_or order x 0) (at_place p (within p below)) ∙ at_order p (within p below);
      back = λ k below. ap (λ x. get_or place x 0) (at_order k (within k below)) ∙ at_place k (within k below);
    }
