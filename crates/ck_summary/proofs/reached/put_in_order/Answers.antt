use Rattle.std.proofs.Common.{rules}
use Rattle.std.proofs.lemmas.Fn.{dedup_same, always_returns_same}
use Rattle.std.proofs.lemmas.List.Sorted.{ranks_by}
use Rattle.std.specs.Ordering.{eq_by_cmp, is_lt}
use Rattle.ck_summary.proofs.OrderLemmas.{order_of, order_total, IsInOrder-from_dedup}
use Rattle.ck_summary.proofs.reached.put_in_order.Goals as goal

pub returns : goal.returns
returns c =
    let flow = c.args.graph.now in
    let sorted = c.in_ok-sort_by.ensures.sorted (λ x y. is_lt (order_of flow x y))
    (ranks_by (order_total flow) (λ x. x)) (always_returns_same _ _ _ (λ a r q k. search rules)) in
    let once = dedup_same _ (eq_by_cmp (order_of flow)) _ (λ x y b f' x' y' k. search rules) _ _
    c.dedup_by.ensures.filtered in
    IsInOrder-from_dedup flow c.args.found.now.items c.sort_by.new.self.items c.dedup_by.new.self.items
    c.in_ok-sort_by.ensures.permutation sorted once
