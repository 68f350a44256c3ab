use Rattle.ck_summary.proofs.StateLemmas.{StepSoFar}
use Rattle.ck_summary.proofs.states.step_of.Given as goal

abbrev pub invariant-states : goal.invariant-states
invariant-states l = StepSoFar l.op l.step l.number
