use Rattle.std.proofs.Common.{◌≡◌, length, refl, true}
use Rattle.ck_tables.specs.ExprTable.{step_below, steps_below}
use Rattle.ck_counts.proofs.Lists.{holds-at}
use Rattle.ck_counts.proofs.expressions.row.Goals as goal

pub suffix-value-requires-clause-there : goal.suffix-value-requires-clause-there
suffix-value-requires-clause-there c =
    let n = length c.args.weighed.now in
    holds-at (step_below n) (steps_below n) (λ y ys. refl) c.args.steps.now c.steps.step-index c.step-item.result
    c.requires.steps c.steps-test.true c.step-item.is
