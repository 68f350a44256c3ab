use Rattle.std.proofs.Common.{subst, arith}
use Rattle.std.proofs.lemmas.List.{length-map}
use Rattle.ck_graph.specs.Flow.{flow_of, point_of}
use Rattle.ck_graph.specs.Faults.{HasPointFault, at_point}
use Rattle.ck_graph.proofs.checking.points_are_sound.Goals as goal

pub returns-then-not-is_point_sound : goal.returns-then-not-is_point_sound
returns-then-not-is_point_sound c =
    let flow = flow_of c.args.parts.now in
    let number = c.loop-number.number in
    at_point number (omega (arith, c.args.parts.now.points.ok.0, length-map c.args.parts.now.points.items point_of))
    (subst (HasPointFault flow number) c.point.ensures (c.if-not-is_point_sound.ensures))
