use Rattle.std.proofs.Common.{rules}
use Rattle.ck_numbering.specs.PlaceOrder.{place_cmp}
use Rattle.ck_numbering.proofs.order.compare.Goals as goal

pub returns : goal.returns
unfolding place_cmp
returns c = search rules
