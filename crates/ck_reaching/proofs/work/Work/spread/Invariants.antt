use Rattle.ck_reaching.proofs.WorkLemmas.{IsSpreadBelow}
use Rattle.ck_reaching.proofs.work.Work.spread.Given as goal

-- the edges so far were passed along
abbrev pub invariant-loop-to : goal.invariant-loop-to
invariant-loop-to l = IsSpreadBelow l.to-items l.to-index l.scratch l.initial.known l.known
