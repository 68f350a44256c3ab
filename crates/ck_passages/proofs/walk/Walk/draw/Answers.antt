use Rattle.std.proofs.Common.{◌∙◌}
use Rattle.ck_passages.specs.Operands.{tree}
use Rattle.ck_passages.specs.Walks.{tables, made}
use Rattle.ck_passages.proofs.DrawnPassages.{draw-passage}
use Rattle.ck_points.specs.Evaluations.{evaluation}
use Rattle.ck_points.specs.Places.{leads}
use Rattle.ck_passages.proofs.walk.Walk.draw.Goals as goal

pub returns : goal.returns
returns c =
    let d = made c.args.self.now c.args.drawing.now in
    c.in_ok-expression.ensures
    ∙ draw-passage c.args.self.now.orders.now
    (evaluation c.args.path.now (tree (tables c.args.self.now) c.args.x.0)) (leads d.to) d.points
