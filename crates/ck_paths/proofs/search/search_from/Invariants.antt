use Rattle.ck_paths.specs.Justified.{AreJustified}
use Rattle.ck_graph.specs.Summary.{HasRoots}
use Rattle.ck_paths.specs.Found.{HasPlace}
use Rattle.ck_paths.specs.Search.{IsReady, IsClosedBelow}
use Rattle.ck_paths.proofs.search.search_from.Given as goal

abbrev pub invariant-loop-number : goal.invariant-loop-number
invariant-loop-number l = record {
  ready : IsReady l.graph l.found.places.items l.found.last.items;
  justified : AreJustified l.graph l.roots l.found.places.items;
  entered : HasRoots l.graph l.roots (HasPlace l.found.places.items);
  closed : IsClosedBelow l.graph l.found.places.items l.number;
}
