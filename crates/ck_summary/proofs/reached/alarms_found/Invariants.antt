use Rattle.ck_summary.proofs.AlarmLemmas.{FoundSoFar}
use Rattle.ck_summary.proofs.reached.alarms_found.Given as goal

abbrev pub invariant-loop-number : goal.invariant-loop-number
invariant-loop-number l = FoundSoFar l.graph l.table.rows l.found.items l.number
