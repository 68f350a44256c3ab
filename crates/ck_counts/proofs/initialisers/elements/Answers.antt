use Rattle.std.proofs.Common.{◌≡◌, ◌<◌, ◌-◌, length, refl, arith}
use Rattle.ck_tables.specs.InitTable.{item_below, row_below}
use Rattle.ck_counts.proofs.Lists.{holds-at}
use Rattle.ck_counts.proofs.initialisers.elements.Goals as goal

pub element-requires-clause-there : goal.element-requires-clause-there
element-requires-clause-there c =
    let n = length c.args.weights.now in
    let low = c.each.invariant.low in
    let some = c.each-test.true in
    let within : c.each.left - 1 < length c.args.row.now = omega (arith, low, some) in
    holds-at (item_below n) (row_below n) (λ y ys. refl) c.args.row.now (c.each.left - 1) c.index-row-left.result
    c.requires.there within c.index-row-left.is
