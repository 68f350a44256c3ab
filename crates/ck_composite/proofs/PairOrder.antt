-- Pairs in the order of their first numbers, and the place of a pair among them.
use Rattle.std.proofs.Common.{◌≡◌, ℕ, ◌<◌, ◌≤◌, ◌⊎◌, inl, inr, true, false, List, get_or}
use Rattle.std.proofs.Common.{length, Option, Some, None, ap, sym, subst, ◌∙◌, arith, if◌then◌else◌}
use Rattle.std.specs.Prelude.{◌==◌, cond, nat_lt, slice_get, slice_index}
use Rattle.std.specs.List.{list_any, position, position_or_len}
use Rattle.std.specs.List.Sorted.{IsNonDecreasingBy}
use Rattle.std.proofs.lemmas.Bool.Decides.{nat_tests}
use Rattle.std.proofs.lemmas.List.Sums.{fails_before_first, passes_at_first}
use Rattle.std.proofs.lemmas.Map.Keys.{any_passes_from_place}
use Rattle.std.proofs.lemmas.Option.{get_or_from_slice_get, slice_get-get_or}
use Rattle.ck_compatible.proofs.PairLemmas.{found, same_pair-equal, there}
use Rattle.ck_compatible.specs.Agreement.{named_list, named_type}
use Rattle.ck_compatible.specs.Pairs.{ArePaired, IsAmong, IsAt, IsClosed, IsSettled, Pair, pair_of, same_pair}
use Rattle.ck_composite.specs.Made.{AreOrdered, IsInOrder, IsOrderOf, number_at, number_made}
use Rattle.ck_types.proofs.InRange.{either}
use Rattle.ck_types.specs.NodeEquality.{and-true, equal-self}
use Rattle.ck_types.specs.declared.types.Node.{Node}

same_pair-self : (p : Pair) → same_pair p p ≡ true
same_pair-self p = and-true (equal-self p.0) (equal-self p.1)

any-among : (ks : List Pair) (p : Pair) → IsAmong ks p → list_any (same_pair p) ks ≡ true
any-among ks p a = any_passes_from_place (same_pair p) ks a.place p a.is (same_pair-self p)

abbrev first_number : Pair → ℕ
first_number p = p.0

rising-order : (ks : List Pair) → IsNonDecreasingBy first_number ks → IsInOrder ks
rising-order ks rising k l p q at_k at_l less = either (nat_lt k l)
    (λ h. grind (arith, nat_tests, h))
    (λ h.
    let back : l ≤ k = grind (arith, nat_tests, h) in
    let first : get_or ks k p ≡ p = get_or_from_slice_get ks k p p at_k in
    let second : get_or ks l p ≡ q = get_or_from_slice_get ks l q p at_l in
    let above = rising l k p back (there ks k p at_k) in
    absurd (omega (arith, above, ap first_number first, ap first_number second)))

-- what a sort leaves
pub order-of : (ks ms : List Pair) → ((p : Pair) → list_any (same_pair p) ms ≡ list_any (same_pair p) ks)
    → IsNonDecreasingBy (λ p. p.0) ms → IsOrderOf ks ms
order-of ks ms same rising = record {
  there = λ p a. found ms p (same p ∙ any-among ks p a);
  back = λ p a. found ks p (sym (same p) ∙ any-among ms p a);
  in_order = rising-order ms rising;
}

paired-by : (ks ms : List Pair) (i j : ℕ) → ((p : Pair) → IsAmong ks p → IsAmong ms p)
    → (i ≡ j) ⊎ IsAmong ks (pair_of i j) → (i ≡ j) ⊎ IsAmong ms (pair_of i j)
paired-by ks ms i j moved (inl e) = inl e
paired-by ks ms i j moved (inr a) = inr (moved (pair_of i j) a)

paired-moved : (ks ms : List Pair) (x y : Option ℕ) → ((p : Pair) → IsAmong ks p → IsAmong ms p)
    → ArePaired ks x y → ArePaired ms x y
paired-moved ks ms (Some i) (Some j) moved h = paired-by ks ms i j moved h
paired-moved ks ms None y moved h = record {}
paired-moved ks ms (Some i) None moved h = record {}

settled-moved : (ns : List Node) (ks ms : List Pair) (p : Pair) → ((q : Pair) → IsAmong ks q → IsAmong ms q)
    → IsSettled ns ks p → IsSettled ns ms p
settled-moved ns ks ms p moved s = record {
  table = s.table;
  one = s.one;
  other = s.other;
  one_is = s.one_is;
  other_is = s.other_is;
  agrees = s.agrees;
  types = paired-moved ks ms (named_type s.one) (named_type s.other) moved s.types;
  lists = paired-moved ks ms (named_list s.one) (named_list s.other) moved s.lists;
}

-- closed pairs in their order
pub ordered-pairs : (ns : List Node) (a b : ℕ) (ks ms : List Pair) → IsClosed ns a b ks → IsOrderOf ks ms
    → AreOrdered ns ms
ordered-pairs ns a b ks ms closed order = record {
  table = (closed.settled closed.begun.place (pair_of a b) closed.begun.is).table;
  in_order = order.in_order;
  settled = λ k p h.
      let a : IsAmong ks p = order.back p (record { place = k; is = h }) in
      settled-moved ns ks ms p order.there (closed.settled a.place p a.is);
}

-- a pair that is there is found at a place that has it
first-place : (ks : List Pair) (p : Pair) (k : ℕ) → IsAt ks k p → position_or_len (same_pair p) ks < length ks
first-place ks p k h = either (nat_lt (position_or_len (same_pair p) ks) (length ks))
    (λ less. grind (arith, nat_tests, less))
    (λ past.
    let within = there ks k p h in
    let at : get_or ks k p ≡ p = get_or_from_slice_get ks k p p h in
    let before : k < position_or_len (same_pair p) ks = grind (arith, nat_tests, past, within) in
    let differs = fails_before_first (same_pair p) ks k p before in
    let same : same_pair p (get_or ks k p) ≡ true = ap (same_pair p) at ∙ same_pair-self p in
    let never : true ≡ false = sym same ∙ differs in
    absurd (cc))

at-first-place : (ks : List Pair) (p : Pair) → position_or_len (same_pair p) ks < length ks
    → IsAt ks (position_or_len (same_pair p) ks) p
at-first-place ks p less =
    slice_get-get_or ks (position_or_len (same_pair p) ks) p less
    ∙ ap Some
    (same_pair-equal p (get_or ks (position_or_len (same_pair p) ks) p) (passes_at_first (same_pair p) ks p less))

-- the pair at the place after the last number
pub next-pair : (ks : List Pair) (ms : List ℕ) (n : ℕ) (p : Pair) → n ≡ length ms → slice_get ks n ≡ Some p
    → IsAt ks (length ms) p
next-pair ks ms n p count here = subst (λ k. IsAt ks k p) count here

-- a number is its own
pub number-same : (ks : List Pair) (ms : List ℕ) (i j : ℕ) → (i == j) ≡ true → number_made ks ms i j ≡ i
number-same ks ms i j same = ap (λ t. if t then i else number_at ms (position (same_pair (pair_of i j)) ks)) same

-- where the number of a pair is
pub record IsFound (ks : List Pair) (ms : List ℕ) (i j : ℕ) : Type 0 where
  pub place : ℕ
  pub is : IsAt ks place (pair_of i j)
  pub number : number_made ks ms i j ≡ slice_index ms place

pub number-found : (ks : List Pair) (ms : List ℕ) (i j : ℕ) → (i == j) ≡ false → IsAmong ks (pair_of i j)
    → IsFound ks ms i j
number-found ks ms i j differ a =
    let less = first-place ks (pair_of i j) a.place a.is in
    let test : nat_lt (position_or_len (same_pair (pair_of i j)) ks) (length ks) ≡ true =
    grind (arith, nat_tests, less) in
    record {
      place = position_or_len (same_pair (pair_of i j)) ks;
      is = at-first-place ks (pair_of i j) less;
      number =
          ap (λ t. if t then i else number_at ms (position (same_pair (pair_of i j)) ks)) differ
          ∙ ap (λ t. number_at ms (cond t (Some (position_or_len (same_pair (pair_of i j)) ks)) None)) test;
    }
