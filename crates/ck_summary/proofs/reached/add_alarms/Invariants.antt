use Rattle.ck_summary.proofs.AlarmLemmas.{AddedSoFar}
use Rattle.ck_summary.proofs.reached.add_alarms.Given as goal

abbrev pub invariant-loop-number : goal.invariant-loop-number
invariant-loop-number l = AddedSoFar l.op l.rows l.point.0 l.initial.found.items l.found.items l.number
