-- A step leads from a point that is there.
use Rattle.std.proofs.Common.{◌<◌, ℕ}
use Rattle.ck_graph.specs.Flow.{Flow, point_count}
use Rattle.ck_graph.proofs.SoundGraphs.{there-from_edge, there-from_call}
use Rattle.ck_segments.specs.declared.segments.Step.{Step}
use Rattle.ck_segments.specs.declared.segments.Step.TheVariants.{Edge, Call, Enter}
use Rattle.ck_segments.specs.Follows.{Follows}

pub there-from_step : (flow : Flow) (p : ℕ) (step : Step) (q : ℕ) → Follows flow p step q → p < point_count flow
there-from_step flow p (Edge k) q follows = there-from_edge flow p k follows.1.edge follows.1.has
there-from_step flow p (Call target segment) q follows = there-from_call flow p target.0 follows.0
there-from_step flow p (Enter target) q follows = there-from_call flow p target.0 follows.0
