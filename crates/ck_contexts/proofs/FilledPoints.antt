-- Points whose targets are filled in one after the other, and the sizes that the parts of a graph have.
use Rattle.std.proofs.Common.{ℕ, ◌^◌, ◌<◌, List, ◌++◌, vec_len, length, get_or, take, drop}
use Rattle.std.proofs.Common.{map, subst, arith}
use Rattle.std.specs.List.{All}
use Rattle.std.proofs.lemmas.List.{get_or-map, length-map}
use Rattle.ck_graph.specs.declared.points.PointPart.{PointPart}
use Rattle.ck_graph.specs.declared.points.Parts.{Parts}
use Rattle.ck_graph.specs.Flow.{Point, flow_of, point_of, point_at, point_count, no_point}

module _ (f : Point → Point) where
  -- the points before the i-th, and f of the others
  abbrev pub half_done : List PointPart → ℕ → List Point
  half_done items i = map point_of (take i items) ++ map f (map point_of (drop i items))

-- the edges of a graph's points are as few as those of its parts
pub edges-few : (parts : Parts)
    → ((n : ℕ) → n < point_count (flow_of parts) → length (point_at (flow_of parts) n).edges < 2 ^ 32)
    → All (λ part. vec_len part.edges < 2 ^ 32) parts.points.items
unfolding point_at
edges-few parts few k d below =
    let there : k < point_count (flow_of parts) = omega (arith, length-map parts.points.items point_of) in
    let part : PointPart = get_or parts.points.items k d in
    let small : length (point_of part).edges < 2 ^ 32 =
    subst (λ (p : Point). length p.edges < 2 ^ 32) (get_or-map point_of parts.points.items k d no_point below)
    (few k there) in
    omega (arith, small, part.edges.ok.0)
