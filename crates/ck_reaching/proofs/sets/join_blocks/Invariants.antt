use Rattle.ck_reaching.proofs.SetLemmas.{IsJoinedBelow}
use Rattle.ck_reaching.proofs.sets.join_blocks.Given as goal

-- the blocks so far are joined
abbrev pub invariant-joins : goal.invariant-joins
invariant-joins l = IsJoinedBelow l.number l.initial.into l.from l.into l.grew
