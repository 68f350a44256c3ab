use Rattle.ck_reaching.proofs.ConnectLemmas.{AreConnectedBelow}
use Rattle.ck_reaching.proofs.solving.connect_calls.Given as goal

-- the calls so far are connected
abbrev pub invariant-loop-number : goal.invariant-loop-number
invariant-loop-number l = AreConnectedBelow l.rules l.calls l.fn.function.0 l.number-index l.initial.work l.work
