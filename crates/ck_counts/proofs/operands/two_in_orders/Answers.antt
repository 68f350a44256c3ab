use Rattle.std.proofs.Common.{[], ◌∷◌}
use Rattle.ck_counts.proofs.operands.two_in_orders.Goals as goal

pub returns : goal.returns
returns c v w left right =
    c.in_orders.ensures (v ∷ w ∷ [])
    (c.with-2.ensures v (w ∷ []) left (c.with.ensures w [] right c.none.ensures))
