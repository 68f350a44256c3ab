use Rattle.std.proofs.Common.{◌≡◌, length}
use Rattle.ck_drafts.specs.Drafts.{plain_place}
use Rattle.ck_points.specs.Labels.{case_way}
use Rattle.ck_points.specs.Places.{leads}
use Rattle.ck_tables.specs.Program.{value_of}
use Rattle.ck_bodies.specs.Noting.{marked, plain_notes}
use Rattle.ck_bodies.specs.Walks.{tables}
use Rattle.ck_bodies.proofs.walk.BodyWalk.case_place.Given as goal

abbrev pub invariant-rest : goal.invariant-rest
invariant-rest l =
    case_way (value_of (tables l.self) l.value.0) (marked (plain_notes (tables l.self) l.initial.rest))
    (leads (plain_place l.elsewhere))
    ≡ case_way (value_of (tables l.self) l.value.0) (marked (plain_notes (tables l.self) l.rest))
    (leads (plain_place l.elsewhere))

abbrev pub decreases-rest : goal.decreases-rest
decreases-rest l = length l.rest
