-- The targets of a call, and the loops over targets and calls.
use Rattle.std.proofs.Common.{◌≡◌, ℕ, zero, suc, ◌+◌, ◌<◌, ◌≤◌, Bool, true, false, List, [], ◌∷◌, Some, length}
use Rattle.std.proofs.Common.{slice_get, eqb, cond, refl, sym, ap, ◌∙◌, subst, inl, inr, arith}
use Rattle.std.specs.List.{Contains}
use Rattle.std.proofs.lemmas.Bool.{eqb-true, eq-eqb, cases_eq}
use Rattle.std.proofs.lemmas.Option.{slice_get_within, slice_get-get_or}
use Rattle.ck_base.specs.declared.spans.FnId.{FnId}
use Rattle.ck_graph.specs.Flow.{Flow, point_at}
use Rattle.ck_graph.specs.Walk.{names_target}
use Rattle.ck_graph.specs.Steps.{IsCall, MayEnter}

-- a named target is at a place of the list, and what is there is named
named-place_by : (f : FnId) (targets : List FnId) (target : ℕ) (b : Bool) → eqb f.0 target ≡ b →
    (names_target targets target ≡ true → (k : ℕ) × (g : FnId) × (slice_get targets k ≡ Some g) × (g.0 ≡ target)) →
    cond b true (names_target targets target) ≡ true →
    (k : ℕ) × (g : FnId) × (slice_get (f ∷ targets) k ≡ Some g) × (g.0 ≡ target)
named-place_by f targets target true e rest h = (0, f, refl, eqb-true f.0 target e)
named-place_by f targets target false e rest h = let r = rest h in (suc r.0, r.1, r.2, r.3)

pub named-place : (targets : List FnId) (target : ℕ) → names_target targets target ≡ true →
    (k : ℕ) × (g : FnId) × (slice_get targets k ≡ Some g) × (g.0 ≡ target)
named-place [] target h = absurd (cc)
named-place (f ∷ targets) target h =
    named-place_by f targets target (eqb f.0 target) refl (λ r. named-place targets target r) h

named-from_place : (targets : List FnId) (k : ℕ) (target : FnId) → slice_get targets k ≡ Some target →
    names_target targets target.0 ≡ true
named-from_place [] k target h = absurd (cc)
named-from_place (f ∷ targets) zero target h =
    let same : f ≡ target = cc in
    ap (λ b. cond b true (names_target targets target.0)) (eq-eqb f.0 target.0 (ap (λ (x : FnId). x.0) same))
named-from_place (f ∷ targets) (suc k) target h =
    either_way (eqb f.0 target.0) (names_target targets target.0) (named-from_place targets k target h) where
      either_way : (b c : Bool) → c ≡ true → cond b true c ≡ true
      either_way true c e = refl
      either_way false c e = e

pub MayEnter-from_place : (flow : Flow) (p : ℕ) (targets : List FnId) (k : ℕ) (target : FnId) → IsCall flow p →
    targets ≡ (point_at flow p).targets → slice_get targets k ≡ Some target → MayEnter flow p target.0
MayEnter-from_place flow p targets k target is same there = record {
  call = is.0;
  is_call = is.1;
  named = ap (λ ts. names_target ts target.0) (sym same) ∙ named-from_place targets k target there;
}

-- something holds of each of the first n elements
abbrev pub Below : {X : Type 0} → List X → ℕ → (X → Type 0) → Type 0
Below {X} xs n P = (k : ℕ) (x : X) → k < n → slice_get xs k ≡ Some x → P x

pub below-none : {X : Type 0} (xs : List X) (P : X → Type 0) → Below xs 0 P
below-none xs P k x below = absurd (omega arith)

pub below-more : {X : Type 0} (xs : List X) (n : ℕ) (x : X) (P Q : X → Type 0) → slice_get xs n ≡ Some x →
    ((y : X) → P y → Q y) → Q x → Below xs n P → Below xs (n + 1) Q
below-more xs n x P Q there later here before k y below is = elim (cases_eq k n) [
  | inl e ↦ let read : Some x ≡ Some y = sym there ∙ (ap (slice_get xs) (sym e) ∙ is) in let same : x ≡ y =
      cc in subst Q same here
  | inr ne ↦ later y (before k y (omega (arith, below, ne)) is)
]

pub below-contains : {X : Type 0} (xs : List X) (n : ℕ) (x : X) (P : X → Type 0) → length xs ≤ n → Below xs n P →
    Contains xs x → P x
below-contains xs n x P all below there =
    below there.0 x (omega (arith, all, there.1)) (slice_get-get_or xs there.0 x there.1 ∙ ap Some there.2)

-- what holds of each target of a call holds of each function that it may enter
pub below-entered : (flow : Flow) (p : ℕ) (targets : List FnId) (n : ℕ) (P : ℕ → Type 0) →
    targets ≡ (point_at flow p).targets → length targets ≤ n → Below targets n (λ t. P t.0) → (target : ℕ) →
    MayEnter flow p target → P target
below-entered flow p targets n P same all below target may =
    let place = named-place targets target (ap (λ ts. names_target ts target) same ∙ may.named) in
    subst P place.3 (below place.0 place.1 (omega (arith, all, slice_get_within targets place.0 place.1 place.2))
    place.2)
