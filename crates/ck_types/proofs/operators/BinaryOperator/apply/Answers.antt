use Rattle.std.proofs.Common.{rules, ◌≡◌}
use Rattle.ck_types.specs.Arithmetic.{binary}
use Rattle.ck_types.proofs.InRange.{binary_if_ok}
use Rattle.ck_types.proofs.operators.BinaryOperator.apply.Goals as goal

pub returns-clause-range : goal.returns-clause-range
returns-clause-range c =
    let value : c.typed.result ≡ binary c.args.self c.args.left c.args.right = search rules in
    binary_if_ok c.args.self c.args.left c.args.right c.typed.result value
