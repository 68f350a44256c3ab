use Rattle.std.proofs.Common.{sym, ap, arith}
use Rattle.ck_graph.specs.Forbidden.{offset_of}
use Rattle.ck_graph.proofs.SoundGraphs.{point_at_past}
use Rattle.ck_summary.proofs.reached.offset.Goals as goal

pub returns-then-point-points : goal.returns-then-point-points
returns-then-point-points c =
    sym (ap (λ p. offset_of p.site) (point_at_past c.args.graph.now c.args.point.0 (omega arith)))
