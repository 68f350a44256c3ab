-- In a graph without a fault each act has its edge, so that such a graph meets the condition on acts.
use Rattle.std.proofs.Common.{◌≡◌, ℕ, ◌<◌, List, [], ◌∷◌, Some, length, slice_get, refl, ap, subst, inl, inr}
use Rattle.std.proofs.lemmas.Bool.{cases_lt}
use Rattle.ck_base.specs.declared.ops.Op.{Op}
use Rattle.ck_graph.specs.declared.points.Edge.{Edge}
use Rattle.ck_graph.specs.declared.points.ActName.{ActName}
use Rattle.ck_graph.specs.declared.points.PointKind.TheVariants.{Plain, Act}
use Rattle.ck_graph.specs.Flow.{Flow, point_at, point_count}
use Rattle.ck_graph.specs.Faults.{IsSound, FitsKind}
use Rattle.ck_graph.specs.Steps.{kind_at, HasEdge}
use Rattle.ck_graph.proofs.SoundGraphs.{point_at_past}

one-edge : (edges : List Edge) → length edges ≡ 1 → (edge : Edge) × (slice_get edges 0 ≡ Some edge)
one-edge [] e = absurd (cc)
one-edge (edge ∷ edges) e = (edge, refl)

act-there : (flow : Flow) (p : ℕ) (op : Op) (name : ActName) → kind_at flow p ≡ Act op name → p < point_count flow
act-there flow p op name is = elim (cases_lt p (point_count flow)) [
  | inl there ↦ there
  | inr past ↦ absurd (let plain : kind_at flow p ≡ Plain = ap (λ point. point.kind) (point_at_past flow p past) in cc)
]

pub act-edges : (flow : Flow) → IsSound flow → (p : ℕ) (op : Op) (name : ActName) → kind_at flow p ≡ Act op name →
    (edge : Edge) × HasEdge flow p 0 edge
act-edges flow sound p op name is =
    one-edge (point_at flow p).edges
    (subst (λ kind. FitsKind kind (length (point_at flow p).edges)) is
    (sound.points p (act-there flow p op name is)).fits)
