use Rattle.std.proofs.Common.{rules}
use Rattle.std.proofs.lemmas.List.Sorted.{IsNonDecreasingBy-from_sort_by_key}
use Rattle.ck_composite.proofs.PairOrder.{order-of}
use Rattle.ck_compatible.specs.Pairs.{Pair}
use Rattle.ck_composite.proofs.order.put_in_order.Goals as goal

pub returns : goal.returns
returns c =
    order-of c.args.pairs.now.keys c.sort_by_key.new.self.keys c.sort_by_key.ensures.reordered.2
    (IsNonDecreasingBy-from_sort_by_key (λ (p : Pair). p.0) _ c.in_ok-sort_by_key.ensures.sorted
    (λ a r q k. search rules))
