use Rattle.std.proofs.Common.{◌≡◌, ◌<◌, ◌≤◌, ◌-◌, length, drop, get_or, sym, ◌∙◌, true, arith}
use Rattle.std.proofs.lemmas.List.{get_or_default}
use Rattle.std.specs.Prelude.{nat_lt}
use Rattle.ck_tables.specs.declared.stmts.Item.{Item}
use Rattle.ck_tables.specs.declared.stmts.Item.TheVariants.{Statement}
use Rattle.ck_counts.proofs.Lists.{drop-back}
use Rattle.ck_counts.proofs.Rows.{items_below-next}
use Rattle.ck_counts.proofs.statements.count_items.Goals as goal

pub each-preserved-in-Continue-1 : goal.each-preserved-in-Continue-1
each-preserved-in-Continue-1 c =
    let row = c.args.row.now in
    let left = c.each.left in
    let low = c.each.invariant.low in
    let some = c.each-test.true in
    let within : left - 1 < length row = omega (arith, low, some) in
    let x : Item = Statement c.in-Statement.s in
    let is = sym c.in-Statement.is ∙ get_or_default row (left - 1) _ x within in
    let n = length c.each.counted.items in
    let m = length c.count_up_to.new.counted.items in
    let less = c.in_ok-count_up_to.ensures.there in
    record {
      low = omega (arith, low);
      known = c.in_ok-count_up_to.ensures.known;
      count = c.in_ok-count_up_to.ensures.count;
      there =
          items_below-next n m x (drop left row) (drop (left - 1) row)
          (drop-back row left x (omega (arith, some)) low is) c.in_ok-count_up_to.ensures.more
          (grind (arith, less)) c.each.invariant.there;
    }
