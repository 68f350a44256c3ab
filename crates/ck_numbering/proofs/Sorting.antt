-- Sorted drafts ascend where no two are at one place.
use Rattle.std.proofs.Common.{◌≡◌, refl, sym, ◌∙◌, ap, subst, arith}
use Rattle.std.specs.Prelude.{◌+◌, Bool, true, false, List, [], ◌∷◌, length, map}
use Rattle.std.specs.Cmp.{IsStrictWeakOrder}
use Rattle.std.specs.List.{IsDistinct}
use Rattle.std.specs.List.Sorted.{IsSortedBy, IsPermutation}
use Rattle.std.specs.Ordering.{is_lt, is_eq, ordering_reverse}
use Rattle.std.specs.declared.cmp.Ordering.{Ordering}
use Rattle.std.specs.declared.cmp.Ordering.TheVariants.{Less, Equal, Greater}
use Rattle.std.proofs.Math.ListN.{get_or-map as same_default}
use Rattle.std.proofs.lemmas.List.{get_or-map, length-map}
use Rattle.std.proofs.lemmas.List.Sorted.{ranks_by, sorted_far}
use Rattle.std.proofs.lemmas.Map.Keys.{IsDistinct-from_apart, IsDistinct-IsPermutation, apart_from_distinct}
use Rattle.ck_drafts.specs.Drafts.{PlainDraft, plain_draft, plain_place}
use Rattle.ck_drafts.specs.declared.drafts.Draft.{Draft}
use Rattle.ck_points.specs.Places.{Place}
use Rattle.ck_numbering.specs.PlaceOrder.{place_cmp, ArePlacedApart, AreAscending}
use Rattle.ck_numbering.proofs.PlaceOrderLaws.{place_cmp_total, place_cmp-Equal}

-- places that differ -------------------------------------------------------------------------------------------------

abbrev pub at_one_place : PlainDraft → PlainDraft → Bool
at_one_place a b = is_eq (place_cmp a.at b.at)

is_eq-false : (o : Ordering) → (o ≡ Equal → ⊥) → is_eq o ≡ false
is_eq-false Less differ = refl
is_eq-false Equal differ = absurd (differ refl)
is_eq-false Greater differ = refl

is_eq-reverse : (o : Ordering) → is_eq (ordering_reverse o) ≡ is_eq o
is_eq-reverse Less = refl
is_eq-reverse Equal = refl
is_eq-reverse Greater = refl

at_one_place-flips : (a b : PlainDraft) → at_one_place a b ≡ at_one_place b a
at_one_place-flips a b = ap is_eq (place_cmp_total.antisymm a.at b.at) ∙ is_eq-reverse (place_cmp b.at a.at)

pub distinct_from_apart : (ds : List PlainDraft) → ArePlacedApart ds → IsDistinct at_one_place ds
distinct_from_apart ds differ =
    IsDistinct-from_apart at_one_place ds
    (λ i j d less within. is_eq-false _ (λ e. differ.apart i j d less within (place_cmp-Equal _ _ e)))

tied : (a b : Place) → a ≡ b → is_eq (place_cmp a b) ≡ false → ⊥
tied a b e no_tie =
    let same : place_cmp a a ≡ Equal = itself (place_cmp a a) (place_cmp_total.antisymm a a) in
    let tie : is_eq (place_cmp a b) ≡ true = subst (λ c. is_eq (place_cmp a c) ≡ true) e (ap is_eq same) in cc
  where
    itself : (o : Ordering) → o ≡ ordering_reverse o → o ≡ Equal
    itself Less e = absurd (cc)
    itself Equal e = refl
    itself Greater e = absurd (cc)

pub apart_after_permutation : (ds es : List PlainDraft) → IsPermutation ds es → ArePlacedApart ds
    → ArePlacedApart es
apart_after_permutation ds es same differ =
    let distinct =
    IsDistinct-IsPermutation at_one_place at_one_place-flips ds es same (distinct_from_apart ds differ) in
    record {
      apart = λ i j d less within e.
          tied _ _ e (apart_from_distinct at_one_place es i j d distinct less within);
    }

-- sorted lists -------------------------------------------------------------------------------------------------------

only_less : (o p : Ordering) → o ≡ ordering_reverse p → is_lt p ≡ false → is_eq o ≡ false → o ≡ Less
only_less o Less e low differ = absurd (cc)
only_less o Equal e low differ = let tie = ap is_eq (sym e) ∙ differ in absurd (cc)
only_less o Greater e low differ = e

abbrev pub plain_less : PlainDraft → PlainDraft → Bool
plain_less a b = is_lt (place_cmp a.at b.at)

pub plain_less_order : IsStrictWeakOrder plain_less
plain_less_order = ranks_by place_cmp_total (λ (d : PlainDraft). d.at)

pub ascending_from_sorted : (ds : List PlainDraft) → IsSortedBy plain_less ds → ArePlacedApart ds
    → AreAscending ds
ascending_from_sorted ds sorted differ =
    let distinct = distinct_from_apart ds differ in
    record {
      less = λ i j d below within.
          only_less _ _ (place_cmp_total.antisymm _ _)
          (sorted_far plain_less plain_less_order ds sorted i j d (omega (arith, below)) within)
          (apart_from_distinct at_one_place ds i j d distinct below within);
    }

not_less : (o p : Ordering) → o ≡ ordering_reverse p → p ≡ Less → is_lt o ≡ false
not_less o p e less = rw (e, less) refl

-- drafts in memory ---------------------------------------------------------------------------------------------------

abbrev pub draft_less : Draft → Draft → Bool
draft_less a b = is_lt (place_cmp (plain_place a.at) (plain_place b.at))

pub draft_less_order : IsStrictWeakOrder draft_less
draft_less_order = ranks_by place_cmp_total (λ (d : Draft). plain_place d.at)

pub plain_sorted : (xs : List Draft) → IsSortedBy draft_less xs → IsSortedBy plain_less (map plain_draft xs)
plain_sorted [] sorted k d low within = absurd (omega (arith, within))
plain_sorted (x ∷ xs) sorted k d low within =
    let long : length (map plain_draft (x ∷ xs)) ≡ length (x ∷ xs) = length-map (x ∷ xs) plain_draft in
    let first = get_or-map plain_draft (x ∷ xs) k x d (omega (arith, within, long)) in
    let second = get_or-map plain_draft (x ∷ xs) (k + 1) x d (omega (arith, within, long)) in
    rw (first, second) (sorted k x low (omega (arith, within, long)))

pub draft_sorted : (xs : List Draft) → AreAscending (map plain_draft xs) → IsSortedBy draft_less xs
draft_sorted xs up k d low within =
    let long : length (map plain_draft xs) ≡ length xs = length-map xs plain_draft in
    let less = up.less k (k + 1) (plain_draft d) (omega arith) (omega (arith, within, long)) in
    let first = same_default plain_draft xs k d in
    let second = same_default plain_draft xs (k + 1) d in
    not_less _ _ (place_cmp_total.antisymm _ _) (rw (first, second) at less)
