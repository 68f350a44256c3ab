use Rattle.std.proofs.Common.{take}
use Rattle.std.specs.List.{All}
use Rattle.ck_graph.specs.Flow.{flow_of}
use Rattle.ck_graph.specs.Faults.{IsPointOf}
use Rattle.ck_graph.proofs.checking.edges_stay.Given as goal

-- the edges so far lead to points of the function
abbrev pub invariant-loop-edge : goal.invariant-loop-edge
invariant-loop-edge l = All (λ edge. IsPointOf (flow_of l.parts) edge.to.0 l.function.0) (take l.edge-index l.edges)
