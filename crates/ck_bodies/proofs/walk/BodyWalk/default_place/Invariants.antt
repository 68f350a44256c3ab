use Rattle.std.proofs.Common.{◌≡◌, length}
use Rattle.ck_drafts.specs.Drafts.{plain_place}
use Rattle.ck_points.specs.Labels.{default_way}
use Rattle.ck_points.specs.Places.{leads}
use Rattle.ck_bodies.specs.Noting.{marked, plain_notes}
use Rattle.ck_bodies.specs.Walks.{tables}
use Rattle.ck_bodies.proofs.walk.BodyWalk.default_place.Given as goal

abbrev pub invariant-rest : goal.invariant-rest
invariant-rest l =
    default_way (marked (plain_notes (tables l.self) l.initial.rest)) (leads (plain_place l.elsewhere))
    ≡ default_way (marked (plain_notes (tables l.self) l.rest)) (leads (plain_place l.elsewhere))

abbrev pub decreases-rest : goal.decreases-rest
decreases-rest l = length l.rest
