use Rattle.std.proofs.Common.{ℕ, ◌<◌}
use Rattle.ck_graph.specs.Flow.{flow_of, point_at}
use Rattle.ck_graph.specs.Faults.{IsPointSound}
use Rattle.ck_graph.proofs.checking.points_are_sound.Given as goal

-- the points so far have no fault
abbrev pub invariant-loop-number : goal.invariant-loop-number
invariant-loop-number l = (n : ℕ) → n < l.number → IsPointSound (flow_of l.parts) n (point_at (flow_of l.parts) n)
