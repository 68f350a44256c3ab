use Rattle.std.proofs.Common.{◌≤◌, length, drop}
use Rattle.std.specs.Prelude.{nat_eq}
use Rattle.indexmap.specs.IndexMap.{get}
use Rattle.ck_bodies.specs.Noting.{Finds}
use Rattle.ck_bodies.specs.Walks.{tables}
use Rattle.ck_bodies.proofs.walk.BodyWalk.labels.Given as goal

abbrev pub invariant-left : goal.invariant-left
invariant-left l =
    record {
      within : l.left ≤ length l.notes.items;
      finds : Finds (tables l.self) l.notes.items (drop l.left l.notes.items) (get nat_eq l.first);
    }

abbrev pub decreases-left : goal.decreases-left
decreases-left l = l.left
