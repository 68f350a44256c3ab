use Rattle.ck_reaching.proofs.IndexedRules.{AreCallsBelow}
use Rattle.ck_reaching.proofs.solving.calls_of.Given as goal

-- the calls so far
abbrev pub invariant-loop-number : goal.invariant-loop-number
invariant-loop-number l = AreCallsBelow l.rules l.number l.calls
