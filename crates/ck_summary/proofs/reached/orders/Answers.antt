use Rattle.std.proofs.Common.{sym, ap, arith}
use Rattle.ck_graph.proofs.SoundGraphs.{point_at_past}
use Rattle.ck_summary.proofs.reached.orders.Goals as goal

pub returns-else-point-points : goal.returns-else-point-points
returns-else-point-points c = sym (ap (λ p. p.order) (point_at_past c.args.graph.now c.args.point.0 (omega arith)))
