use Rattle.std.proofs.Common.{[], map, ap, ◌∙◌}
use Rattle.ck_drafts.specs.Drafts.{plain_edge, plain_place}
use Rattle.ck_passages.specs.Drawing.{put}
use Rattle.ck_points.specs.Functions.{exit}
use Rattle.ck_points.specs.Places.{Ends}
use Rattle.ck_bodies.specs.DrawnFunctions.{ending}
use Rattle.ck_bodies.specs.Walks.{tables, made}
use Rattle.ck_bodies.proofs.Apart.{alone-points}
use Rattle.ck_bodies.proofs.walk.BodyWalk.ending.Goals as goal

pub returns : goal.returns
unfolding ending
returns c =
    let w = c.args.self.now in
    let span = c.args.name.span in
    let es = map plain_edge c.new-edges.result.items in
    let ps = (made w c.apart-drawing.result).points in
    c.in_ok-put.ensures (tables w)
    ∙ ap (λ p. put p Ends span es ps) c.in_ok-exit.ensures
    ∙ ap (λ xs. put exit Ends span (map plain_edge xs) ps) c.new-edges.ensures.items
    ∙ ap (put exit Ends span [])
    (ap (λ d. d.points) c.apart-drawing.ensures ∙ alone-points (plain_place c.in_ok-next.next))
