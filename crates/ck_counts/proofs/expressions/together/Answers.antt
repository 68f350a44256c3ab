use Rattle.std.proofs.Common.{◌≡◌, ◌<◌, ◌-◌, length, refl, sym, true, get_or, arith}
use Rattle.std.proofs.lemmas.List.{get_or_default}
use Rattle.std.specs.Prelude.{nat_lt}
use Rattle.ck_tables.specs.ExprTable.{arguments_below}
use Rattle.ck_tables.specs.declared.exprs.ExprId.{ExprId}
use Rattle.ck_counts.proofs.Lists.{holds-at}
use Rattle.ck_counts.proofs.expressions.together.Goals as goal

pub operand-requires-clause-there : goal.operand-requires-clause-there
operand-requires-clause-there c =
    let xs = c.args.arguments.now in
    let n = length c.args.weighed.now in
    let none : ExprId = record { 0 = 0 } in
    let left = c.each.left - 1 in
    let x = get_or xs left none in
    let low = c.each.invariant.low in
    let some = c.each-test.true in
    let within : left < length xs = omega (arith, low, some) in
    let h = holds-at (λ y. nat_lt y.0 n) (arguments_below n) (λ y ys. refl) xs left x c.requires.there within
    (get_or_default xs left none x within) in
    grind (arith, h)
