-- The numbers of a point's edges fit 32 bits, where the limit of points is kept.
use Rattle.std.proofs.Common.{◌≡◌, ap, arith}
use Rattle.std.specs.Prelude.{◌<◌, ◌≤◌, ◌^◌, ℕ, suc, zero, List, ◌∷◌, [], length, map}
use Rattle.std.specs.Prelude.{slice_get, slice_index_or}
use Rattle.std.specs.Prelude.{Some, None, All, Contains, Vec, vec_len}
use Rattle.std.specs.List.{sum_by}
use Rattle.std.proofs.lemmas.List.Elements.{Contains-get_or}
use Rattle.std.proofs.lemmas.List.Sums.{sum_by-cons}
use Rattle.std.proofs.lemmas.Slice.Zip.{AllZip-long}
use Rattle.ck_graph.specs.Flow as graph
use Rattle.ck_graph.specs.Flow.{Flow, point_of}
use Rattle.ck_graph.specs.declared.points.PointPart.{PointPart}
use Rattle.ck_points.specs.Functions.{points}
use Rattle.ck_points.specs.Graphs.{Program, IsEdge, IsGraph, passing_limit}
use Rattle.ck_points.specs.Laws.{EdgesAreFew}
use Rattle.ck_prog.specs.TypedBodies.{TypedFunction}
use Rattle.ck_numbering.proofs.ListLemmas.{Contains-map}
use Rattle.ck_numbering.proofs.Sums.{kept_sum}

one_of_sum : (fs : List TypedFunction) (i : ℕ) (f : TypedFunction) → slice_get fs i ≡ Some f
    → length (points f) ≤ sum_by (λ g. length (points g)) fs
one_of_sum [] i f is = absurd (cc)
one_of_sum (g ∷ fs) zero f is =
    let same : g ≡ f = cc in
    let long = ap (λ h. length (points h)) same in omega (arith, long, sum_by-cons (λ h. length (points h)) g fs)
one_of_sum (g ∷ fs) (suc i) f is =
    let rest = one_of_sum fs i f is in omega (arith, rest, sum_by-cons (λ h. length (points h)) g fs)

few_edges : EdgesAreFew → (p : Program) (flow : Flow) → passing_limit p.functions ≡ None → IsGraph p flow
    → (m : graph.Point) → Contains flow.points m → length m.edges < 2 ^ 32
few_edges few p flow kept g m listed =
    let some = g.own m listed in
    let as_many = AllZip-long (IsEdge flow some.number) some.point.edges m.edges some.is.edges in
    let edges = few some.function some.point some.listed in
    let one = one_of_sum p.functions some.number some.function some.numbered in
    let sum = kept_sum 0 p.functions (omega arith) kept in
    omega (arith, as_many, edges, one, sum)

long : {X A : Type 0} (v : Vec X A) → vec_len v ≡ length v.items
long v = grind arith

pub small_edges : EdgesAreFew → (p : Program) (items : List PointPart) (flow : Flow)
    → flow.points ≡ map point_of items → passing_limit p.functions ≡ None → IsGraph p flow
    → All (λ part. vec_len part.edges < 2 ^ 32) items
small_edges few p items flow made kept g k d low =
    let part = slice_index_or items k d in
    let listed = Contains-map point_of items part (Contains-get_or items k d low) in
    let less = few_edges few p flow kept g (point_of part) (rw made listed) in
    omega (arith, less, long part.edges)
