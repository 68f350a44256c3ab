use Rattle.std.proofs.Common.{◌≡◌, ◌<◌, length, refl, get_or, true, arith}
use Rattle.std.specs.Prelude.{nat_lt}
use Rattle.ck_tables.specs.ExprTable.{links_below}
use Rattle.ck_tables.specs.declared.exprs.Link.{Link}
use Rattle.ck_counts.proofs.Lists.{holds-at, element-at}
use Rattle.ck_counts.proofs.expressions.chain.Goals as goal

pub linked-value-requires-clause-there : goal.linked-value-requires-clause-there
linked-value-requires-clause-there c =
    let n = length c.args.weighed.now in
    element-at (λ (y : Link). nat_lt y.operand.0 n) (λ y. y.operand.0 < n) (λ y h. grind (arith, h)) (links_below n)
    (λ y ys. refl) c.args.links.now c.links.next-index _ c.requires.links c.links-test.true
