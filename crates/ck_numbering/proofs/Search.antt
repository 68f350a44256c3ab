-- What a binary search among ascending drafts finds.
use Rattle.std.proofs.Common.{◌≡◌, inl, inr, sym, ◌∙◌, ap, arith}
use Rattle.std.specs.Prelude.{◌<◌, ◌⊎◌, ℕ, List, [], ◌∷◌, length, map, slice_index_or}
use Rattle.std.specs.List.{HoldsAt}
use Rattle.std.specs.List.Sorted.{IsPartitionPoint}
use Rattle.std.specs.declared.cmp.Ordering.{Ordering}
use Rattle.std.specs.declared.cmp.Ordering.TheVariants.{Less, Equal, Greater}
use Rattle.std.proofs.lemmas.Cmp.{tied_itself}
use Rattle.std.proofs.lemmas.List.{get_or-map, length-map}
use Rattle.ck_drafts.specs.Drafts.{PlainDraft, plain_draft, plain_place}
use Rattle.ck_drafts.specs.declared.drafts.Draft.{Draft}
use Rattle.ck_points.specs.Places.{Place}
use Rattle.ck_numbering.specs.Closed.{HasDraftAt}
use Rattle.ck_numbering.specs.Numbered.{IsIndexOf}
use Rattle.ck_numbering.specs.PlaceOrder.{place_cmp}
use Rattle.ck_numbering.proofs.ListLemmas.{below_or_above}
use Rattle.ck_numbering.proofs.PlaceOrderLaws.{place_cmp_total, place_cmp-Equal}

-- how a draft's place is ordered against a place
abbrev pub against : Place → Draft → Ordering
against at d = place_cmp (plain_place d.at) at

pub found : (xs : List Draft) (at : Place) (i : ℕ) → i < length xs → HoldsAt (λ d. against at d ≡ Equal) xs i
    → IsIndexOf (map plain_draft xs) at i
found [] at i low equal = absurd (omega arith)
found (x ∷ xs) at i low equal =
    let long : length (map plain_draft (x ∷ xs)) ≡ length (x ∷ xs) = length-map (x ∷ xs) plain_draft in
    record {
      there = omega (arith, low, long);
      is = λ d. ap (λ (e : PlainDraft). e.at) (get_or-map plain_draft (x ∷ xs) i x d low)
          ∙ place_cmp-Equal _ at (equal x);
    }

neither : (o : Ordering) → o ≡ Equal → (o ≡ Less) ⊎ (o ≡ Greater) → ⊥
neither o equal (inl less) = cc
neither o equal (inr greater) = cc

-- a place at which there is a draft isn't missing
pub not_missing : (xs : List Draft) (at : Place) (i : ℕ) → HasDraftAt (map plain_draft xs) at
    → IsPartitionPoint (λ d. against at d ≡ Less) (λ d. against at d ≡ Greater) xs i → ⊥
not_missing [] at i has parts = let low = has.listed.1 in absurd (omega (arith, low))
not_missing (x ∷ xs) at i has parts =
    let k = has.listed.0 in
    let long : length (map plain_draft (x ∷ xs)) ≡ length (x ∷ xs) = length-map (x ∷ xs) plain_draft in
    let low : k < length (x ∷ xs) = omega (arith, has.listed.1, long) in
    let here = slice_index_or (x ∷ xs) k x in
    let read : plain_draft here ≡ has.draft =
    sym (get_or-map plain_draft (x ∷ xs) k x has.draft low) ∙ has.listed.2 in
    let same : plain_place here.at ≡ at = ap (λ (e : PlainDraft). e.at) read ∙ has.is in
    let equal : against at here ≡ Equal = ap (λ p. place_cmp p at) same ∙ tied_itself place_cmp_total at in
    neither (against at here) equal
    (elim (below_or_above k i) [
      | inl below ↦ inl (parts.0 k x (omega arith) below)
      | inr above ↦ inr (parts.1 k x above low)
    ])
