use Rattle.ck_summary.specs.Solution.{lists_of}
use Rattle.ck_summary.proofs.CallLists.{CallersBelow}
use Rattle.ck_summary.proofs.callers.callers_of.Given as goal

-- the calls at the points so far
abbrev pub invariant-loop-number : goal.invariant-loop-number
invariant-loop-number l = CallersBelow l.graph (lists_of l.callers.items) l.number
