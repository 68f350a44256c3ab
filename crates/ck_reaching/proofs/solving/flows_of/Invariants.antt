use Rattle.ck_reaching.proofs.IndexedRules.{AreFlowsBelow}
use Rattle.ck_reaching.proofs.solving.flows_of.Given as goal

-- the flows so far
abbrev pub invariant-loop-flow : goal.invariant-loop-flow
invariant-loop-flow l = AreFlowsBelow l.rules l.flow-index l.edges
