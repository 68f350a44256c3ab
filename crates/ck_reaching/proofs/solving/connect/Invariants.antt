use Rattle.ck_reaching.proofs.ConnectLemmas.{IsConnectedBelow}
use Rattle.ck_reaching.proofs.solving.connect.Given as goal

-- the arguments so far are connected
abbrev pub invariant-places : goal.invariant-places
invariant-places l = IsConnectedBelow l.rules l.call l.callee l.place l.initial.work l.work
