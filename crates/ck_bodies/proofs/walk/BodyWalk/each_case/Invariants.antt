use Rattle.std.proofs.Common.{◌≡◌, ◌++◌, length, map}
use Rattle.ck_drafts.specs.Drafts.{plain_edge, edge_drafted}
use Rattle.ck_points.specs.Labels.{case_edges}
use Rattle.ck_bodies.specs.Noting.{marked, plain_notes}
use Rattle.ck_bodies.specs.Walks.{tables}
use Rattle.ck_bodies.proofs.walk.BodyWalk.each_case.Given as goal

abbrev pub invariant-rest : goal.invariant-rest
invariant-rest l =
    map edge_drafted (case_edges 0 (marked (plain_notes (tables l.self) l.initial.rest)))
    ≡ map plain_edge l.edges.items
    ++ map edge_drafted (case_edges (length l.edges.items) (marked (plain_notes (tables l.self) l.rest)))

abbrev pub decreases-rest : goal.decreases-rest
decreases-rest l = length l.rest
