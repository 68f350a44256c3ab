use Rattle.std.proofs.Common.{arith}
use Rattle.ck_graph.proofs.SoundGraphs.{target-below}
use Rattle.ck_segments.proofs.Places.{there-from_step}
use Rattle.ck_segments.proofs.following.follows.Goals as goal

pub returns-then-from-points : goal.returns-then-from-points
returns-then-from-points c = λ does. absurd (omega (
  arith,
  there-from_step c.args.graph.now c.args.from.0
      c.args.step.now c.args.to.0 does,
))

pub starts_at-requires : goal.starts_at-requires
starts_at-requires c =
    target-below c.args.graph.now c.points-points.ensures.sound c.args.from.0 c.in-Enter.target.0
    c.if-may_enter-2.ensures
