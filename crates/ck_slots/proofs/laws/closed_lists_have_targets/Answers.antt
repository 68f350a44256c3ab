use Rattle.ck_slots.proofs.ClosedLists.{closed_lists_have_targets}
use Rattle.ck_slots.proofs.laws.closed_lists_have_targets.Goals as goal

pub returns : goal.returns
returns c = closed_lists_have_targets
