use Rattle.std.proofs.Common.{◌≡◌, ◌++◌, map, drop}
use Rattle.ck_graph.specs.Flow.{point_of}
use Rattle.ck_contexts.specs.Extended.{points_from}
use Rattle.ck_contexts.proofs.placing.add_points.Given as goal

-- the points so far, and those from this place on
abbrev pub invariant-loop-place : goal.invariant-loop-place
invariant-loop-place l =
    map point_of l.points.items ++ points_from l.at l.place (drop l.place l.steps)
    ≡ map point_of l.fn.points.items ++ points_from l.at 0 l.steps
