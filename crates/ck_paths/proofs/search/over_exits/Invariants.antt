use Rattle.std.proofs.Common.{◌≤◌, length}
use Rattle.ck_graph.specs.Steps.{exit_of}
use Rattle.ck_paths.specs.Search.{Grows, HasExits}
use Rattle.ck_paths.proofs.Links.{LinksTo}
use Rattle.ck_paths.proofs.search.over_exits.Given as goal

abbrev pub invariant-links : goal.invariant-links
invariant-links l = record {
  grows : Grows l.graph l.initial.found.places.items l.found.places.items l.found.last.items;
  within : l.link ≤ length l.initial.found.places.items;
  there : LinksTo l.initial.found.places.items (exit_of l.graph l.target.0) l.link;
  passed : HasExits l.graph l.initial.found.places.items l.found.places.items l.calls (exit_of l.graph l.target.0)
      l.link;
}

abbrev pub decreases-links : goal.decreases-links
decreases-links l = l.link
