use Rattle.std.proofs.Common.{◌≤◌, length}
use Rattle.ck_paths.proofs.Links.{Passed, LinksTo}
use Rattle.ck_paths.proofs.found.Found.has.Given as goal

-- the places from the link on differ
abbrev pub invariant-links : goal.invariant-links
invariant-links l = record {
  within : l.link ≤ length l.self.places.items;
  there : LinksTo l.self.places.items l.fn.point.0 l.link;
  passed : Passed l.self.places.items l.fn.point.0 l.from l.to l.link;
}

abbrev pub decreases-links : goal.decreases-links
decreases-links l = l.link
