-- What a sound graph says of an edge, a call's target and an exit that a walk meets.
use Rattle.std.proofs.Common.{◌≡◌, ℕ, ◌<◌, ◌≤◌, Bool, true, false, cond, eqb, List, [], ◌∷◌, Some, None, length, get_or}
use Rattle.std.proofs.Common.{slice_get, refl, sym, ap, ◌∙◌, subst, inl, inr}
use Rattle.std.specs.List.{All}
use Rattle.std.proofs.lemmas.Bool.{cases_lt, eqb-true}
use Rattle.std.proofs.lemmas.List.{get_or_past}
use Rattle.std.proofs.lemmas.List.Elements.{All-head, All-tail}
use Rattle.std.proofs.lemmas.Option.{slice_get_within, slice_get-get_or}
use Rattle.ck_base.specs.declared.spans.FnId.{FnId}
use Rattle.ck_graph.specs.declared.points.Edge.{Edge}
use Rattle.ck_graph.specs.declared.points.PointKind.TheVariants.{Plain, Call, Exit}
use Rattle.ck_graph.specs.Flow.{Flow, point_at, point_count, function_count, no_point}
use Rattle.ck_graph.specs.Faults.{IsSound, IsPointOf}
use Rattle.ck_graph.specs.Walk.{names_target}
use Rattle.ck_graph.specs.Steps.{kind_at, exit_of, HasEdge, MayEnter}

pub point_at_past : (flow : Flow) (p : ℕ) → point_count flow ≤ p → point_at flow p ≡ no_point
unfolding point_at
point_at_past flow p past = get_or_past flow.points p no_point past

-- a point that differs from the one that isn't there is there
there-from : (flow : Flow) (p : ℕ) → (point_at flow p ≡ no_point → ⊥) → p < point_count flow
there-from flow p differs = elim (cases_lt p (point_count flow)) [
  | inl there ↦ there
  | inr past ↦ absurd (differs (point_at_past flow p past))
]

pub there-from_edge : (flow : Flow) (p k : ℕ) (edge : Edge) → HasEdge flow p k edge → p < point_count flow
there-from_edge flow p k edge has =
    there-from flow p (λ none.
    let no : slice_get (point_at flow p).edges k ≡ None = ap (λ point. slice_get point.edges k) none in
    cc)

pub there-from_exit : (flow : Flow) (p : ℕ) → kind_at flow p ≡ Exit → p < point_count flow
there-from_exit flow p is =
    there-from flow p (λ none.
    let plain : kind_at flow p ≡ Plain = ap (λ point. point.kind) none in
    cc)

pub there-from_call : (flow : Flow) (p target : ℕ) → MayEnter flow p target → p < point_count flow
there-from_call flow p target may =
    there-from flow p (λ none.
    let plain : kind_at flow p ≡ Plain = ap (λ point. point.kind) none in
    let is : kind_at flow p ≡ Call may.call = may.is_call in
    cc)

pub edge-stays : (flow : Flow) → IsSound flow → (p k : ℕ) (edge : Edge) → HasEdge flow p k edge
    → IsPointOf flow edge.to.0 (point_at flow p).function.0
edge-stays flow sound p k edge has =
    let edges : List Edge = (point_at flow p).edges in
    let below : k < length edges = slice_get_within edges k edge has in
    let read : Some (get_or edges k edge) ≡ Some edge = sym (slice_get-get_or edges k edge below) ∙ has in
    let is : get_or edges k edge ≡ edge = cc in
    subst (λ e. IsPointOf flow e.to.0 (point_at flow p).function.0) is
    ((sound.points p (there-from_edge flow p k edge has)).edges k edge below)

named-below_by : (n : ℕ) (f : FnId) (targets : List FnId) (target : ℕ) (b : Bool) → eqb f.0 target ≡ b → f.0 < n
    → (names_target targets target ≡ true → target < n) → cond b true (names_target targets target) ≡ true → target < n
named-below_by n f targets target true e here rest h = subst (λ t. t < n) (eqb-true f.0 target e) here
named-below_by n f targets target false e here rest h = rest h

named-below : (n : ℕ) (targets : List FnId) (target : ℕ) → All (λ f. f.0 < n) targets
    → names_target targets target ≡ true → target < n
named-below n [] target all named = absurd (cc)
named-below n (f ∷ targets) target all named =
    named-below_by n f targets target (eqb f.0 target) refl (All-head (λ f. f.0 < n) f targets all)
    (λ h. named-below n targets target (All-tail (λ f. f.0 < n) f targets all) h) named

pub target-below : (flow : Flow) → IsSound flow → (p target : ℕ) → MayEnter flow p target → target < function_count flow
target-below flow sound p target may =
    named-below (function_count flow) (point_at flow p).targets target
    (sound.points p (there-from_call flow p target may)).targets may.named

pub exit-named : (flow : Flow) → IsSound flow → (p : ℕ) → kind_at flow p ≡ Exit
    → exit_of flow (point_at flow p).function.0 ≡ p
exit-named flow sound p is = (sound.points p (there-from_exit flow p is)).exit is
