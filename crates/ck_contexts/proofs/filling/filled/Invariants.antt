use Rattle.std.proofs.Common.{◌≡◌, map}
use Rattle.ck_graph.specs.Flow.{point_of}
use Rattle.ck_contexts.specs.Extended.{with_targets}
use Rattle.ck_contexts.proofs.FilledPoints.{half_done}
use Rattle.ck_contexts.proofs.filling.filled.Given as goal

-- the points so far are done, and the others are as they were
abbrev pub invariant-loop-point : goal.invariant-loop-point
invariant-loop-point g l =
    half_done (with_targets (g.T.CallTargets.targets l.targets)) l.point-items l.point-index
    ≡ map (with_targets (g.T.CallTargets.targets l.targets)) (map point_of l.initial.point-items)
