use Rattle.ck_slots.proofs.ClosedLists.{closed_lists_cover}
use Rattle.ck_slots.proofs.laws.closed_lists_cover.Goals as goal

pub returns : goal.returns
returns c = closed_lists_cover
