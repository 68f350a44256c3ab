use Rattle.ck_slots.proofs.JustifiedLists.{justified_lists_have_targets}
use Rattle.ck_slots.proofs.laws.justified_lists_have_targets.Goals as goal

pub returns : goal.returns
returns c = justified_lists_have_targets
