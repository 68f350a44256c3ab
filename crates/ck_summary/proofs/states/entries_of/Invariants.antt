use Rattle.ck_summary.proofs.StateLemmas.{EntriesSoFar}
use Rattle.ck_summary.proofs.states.entries_of.Given as goal

abbrev pub invariant-numbers : goal.invariant-numbers
invariant-numbers l = EntriesSoFar l.rows l.entries l.to
