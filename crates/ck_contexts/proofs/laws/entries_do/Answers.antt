use Rattle.ck_contexts.proofs.GraphWays.{entries-do}
use Rattle.ck_contexts.proofs.laws.entries_do.Goals as goal

pub returns : goal.returns
returns c = entries-do
