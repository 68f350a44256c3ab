use Rattle.std.proofs.Common.{◌≡◌, ℕ, ◌<◌, Some, slice_get}
use Rattle.ck_graph.specs.declared.entries.Root.{Root}
use Rattle.ck_graph.specs.Steps.{first_of}
use Rattle.ck_paths.specs.Found.{HasPlace}
use Rattle.ck_paths.specs.Justified.{AreJustified}
use Rattle.ck_paths.specs.Search.{IsReady}
use Rattle.ck_paths.proofs.search.enter_roots.Given as goal

abbrev pub invariant-loop-k : goal.invariant-loop-k
invariant-loop-k l = record {
  ready : IsReady l.graph l.found.places.items l.found.last.items;
  justified : AreJustified l.graph l.roots l.found.places.items;
  entered : (k : ℕ) (root : Root) → k < l.k → slice_get l.roots k ≡ Some root →
      HasPlace l.found.places.items (first_of l.graph root.function.0) root.start root.start;
}
