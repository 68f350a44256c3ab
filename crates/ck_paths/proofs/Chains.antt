-- Loops along the links of a point, while the list grows.
use Rattle.std.proofs.Common.{◌≡◌, ℕ, ◌<◌, ◌≤◌, ◌+◌, ◌-◌, List, length, get_or, slice_get, sym, ap, ◌∙◌, subst, inl}
use Rattle.std.proofs.Common.{inr, arith}
use Rattle.std.proofs.lemmas.Bool.{cases_lt}
use Rattle.std.proofs.lemmas.Option.{slice_get_within, slice_get-get_or, same_Some}
use Rattle.ck_base.specs.declared.states.State.{State}
use Rattle.ck_graph.specs.Flow.{Flow}
use Rattle.ck_paths.specs.declared.found.Place.{Place}
use Rattle.ck_paths.specs.Found.{IsAt, AreLinked, Extends, last_at}
use Rattle.ck_paths.specs.Search.{HasReturn, HasExits, HasCallers, HasCalled}
use Rattle.ck_graph.specs.Steps.{first_of}
use Rattle.ck_paths.proofs.Growing.{has-kept}

pub at-before : (old new : List Place) (n : ℕ) (e : Place) → Extends old new → n < length old → IsAt new n e →
    IsAt old n e
at-before old new n e kept below at =
    let y : Place = get_or old n e in
    let was : IsAt old n y = slice_get-get_or old n e below in
    subst (IsAt old n) (same_Some y e (sym (kept n y was) ∙ at)) was

pub long-kept : (old new : List Place) (link : ℕ) (d : Place) → Extends old new → 0 < link → link ≤ length old →
    link ≤ length new
long-kept old new link d kept some within =
    let was : IsAt old (link - 1) (get_or old (link - 1) d) = slice_get-get_or old (link - 1) d (omega arith) in
    omega (
      arith,
      slice_get_within new (link - 1) (get_or old (link - 1) d)
          (kept (link - 1) (get_or old (link - 1) d) was),
    )

-- what holds of the places from a link on
pub passed-more : (Q : Place → Type 0) (places : List Place) (last : List ℕ) (p n : ℕ) (place : Place) →
    AreLinked places last → IsAt places n place → place.point.0 ≡ p → Q place →
    ((x : ℕ) (e : Place) → IsAt places x e → e.point.0 ≡ p → n + 1 ≤ x → Q e) → (x : ℕ) (e : Place) →
    IsAt places x e → e.point.0 ≡ p → place.same ≤ x → Q e
passed-more Q places last p n place linked at point here passed x e is there past = elim (cases_lt n x) [
  | inl after ↦ passed x e is there (omega (arith, after))
  | inr upto ↦ elim (cases_lt x n) [
    | inl before ↦ absurd (omega (arith, past, linked.links n x place e at is (there ∙ sym point) before))
    | inr same ↦
        let number : x ≡ n = omega (arith, upto, same) in
        subst Q (same_Some place e (sym at ∙ (ap (slice_get places) (sym number) ∙ is))) here
  ]
]

pub return-kept : (flow : Flow) (mid new : List Place) (calls : Place) (to : State) → Extends mid new →
    HasReturn flow mid calls to → HasReturn flow new calls to
return-kept flow mid new calls to kept has edge is = has-kept mid new edge.to.0 calls.from to kept (has edge is)

pub exits-start : (flow : Flow) (places : List Place) (last : List ℕ) (calls : Place) (exit : ℕ) →
    AreLinked places last → HasExits flow places places calls exit (last_at last exit)
exits-start flow places last calls exit linked x ends at point past _ =
    absurd (omega (arith, past, subst (λ (q : ℕ). x < last_at last q) point (linked.covers x ends at)))

pub callers-start : (flow : Flow) (places : List Place) (last : List ℕ) (ends : Place) (caller : ℕ) →
    AreLinked places last → HasCallers flow places places ends caller (last_at last caller)
callers-start flow places last ends caller linked n calls at point past _ =
    absurd (omega (arith, past, subst (λ (q : ℕ). n < last_at last q) point (linked.covers n calls at)))

pub exits-more : (flow : Flow) (old mid new : List Place) (last : List ℕ) (calls : Place) (exit n : ℕ)
    (ends : Place) → AreLinked old last → IsAt old n ends → ends.point.0 ≡ exit → Extends mid new →
    (ends.from ≡ calls.to → HasReturn flow new calls ends.to) → HasExits flow old mid calls exit (n + 1) →
    HasExits flow old new calls exit ends.same
exits-more flow old mid new last calls exit n ends linked at point kept here passed =
    passed-more (λ e. e.from ≡ calls.to → HasReturn flow new calls e.to) old last exit n ends linked at point here
    (λ x e is there past same. return-kept flow mid new calls e.to kept (passed x e is there past same))

pub callers-more : (flow : Flow) (old mid new : List Place) (last : List ℕ) (ends : Place) (caller n : ℕ)
    (calls : Place) → AreLinked old last → IsAt old n calls → calls.point.0 ≡ caller → Extends mid new →
    (ends.from ≡ calls.to → HasReturn flow new calls ends.to) → HasCallers flow old mid ends caller (n + 1) →
    HasCallers flow old new ends caller calls.same
callers-more flow old mid new last ends caller n calls linked at point kept here passed =
    passed-more (λ e. ends.from ≡ e.to → HasReturn flow new e ends.to) old last caller n calls linked at point here
    (λ x e is there past same. return-kept flow mid new e ends.to kept (passed x e is there past same))

pub called-kept : (flow : Flow) (old mid new : List Place) (calls : Place) (target : ℕ) → Extends mid new →
    HasCalled flow old mid calls target → HasCalled flow old new calls target
called-kept flow old mid new calls target kept h = record {
  inside = has-kept mid new (first_of flow target) calls.to calls.to kept h.inside;
  back = λ x e at point past same. return-kept flow mid new calls e.to kept (h.back x e at point past same);
}

-- what was there earlier
pub called-before : (flow : Flow) (old mid new : List Place) (calls : Place) (target : ℕ) → Extends old mid →
    HasCalled flow mid new calls target → HasCalled flow old new calls target
called-before flow old mid new calls target kept h = record {
  inside = h.inside;
  back =
      λ x e at point past same. h.back x e (kept x e at) point past same;
}

pub callers-kept : (flow : Flow) (old mid new : List Place) (ends : Place) (caller : ℕ) → Extends mid new →
    HasCallers flow old mid ends caller 0 → HasCallers flow old new ends caller 0
callers-kept flow old mid new ends caller kept h n calls at point past same =
    return-kept flow mid new calls ends.to kept (h n calls at point past same)

pub callers-before : (flow : Flow) (old mid new : List Place) (ends : Place) (caller : ℕ) → Extends old mid →
    HasCallers flow mid new ends caller 0 → HasCallers flow old new ends caller 0
callers-before flow old mid new ends caller kept h n calls at point past same =
    h n calls (kept n calls at) point past same
