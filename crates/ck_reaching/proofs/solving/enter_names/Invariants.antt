use Rattle.ck_reaching.proofs.StartLemmas.{AreEnteredBelow}
use Rattle.ck_reaching.proofs.solving.enter_names.Given as goal

-- the names so far are entered
abbrev pub invariant-loop-name : goal.invariant-loop-name
invariant-loop-name l = AreEnteredBelow l.rules l.name-index l.initial.work l.work
