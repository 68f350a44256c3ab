use Rattle.std.proofs.Common.{[], sym, ◌∙◌}
use Rattle.ck_passages.specs.Operands.{tree}
use Rattle.ck_passages.proofs.DrawnPassages.{draw-passage}
use Rattle.ck_points.specs.Evaluations.{evaluation}
use Rattle.ck_points.specs.Places.{leads}
use Rattle.ck_bodies.specs.Walks.{tables, made}
use Rattle.ck_bodies.proofs.walk.BodyWalk.evaluate.Goals as goal

pub returns : goal.returns
returns c =
    let w = c.args.self.now in
    let d = made w c.args.drawing.now in
    c.in_ok-draw.ensures
    ∙ sym (draw-passage [] (evaluation c.args.path.now (tree (tables w) c.args.x.0)) (leads d.to) d.points)
