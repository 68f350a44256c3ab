use Rattle.std.proofs.Common.{ℕ, ◌<◌}
use Rattle.ck_graph.specs.declared.points.Edge.{Edge}
use Rattle.ck_graph.specs.Steps.{HasEdge}
use Rattle.ck_paths.specs.Found.{HasPlace}
use Rattle.ck_paths.specs.Search.{Grows}
use Rattle.ck_paths.proofs.search.along_edges.Given as goal

-- the edges so far have led on
abbrev pub invariant-loop-k : goal.invariant-loop-k
invariant-loop-k l = record {
  grows : Grows l.graph l.initial.found.places.items l.found.places.items l.found.last.items;
  next : (k : ℕ) (edge : Edge) → k < l.k → HasEdge l.graph l.place.point.0 k edge →
      HasPlace l.found.places.items edge.to.0 l.place.from l.next;
}
