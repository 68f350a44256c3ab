use Rattle.std.proofs.Common.{rules, ◌≡◌}
use Rattle.ck_types.specs.Arithmetic.{unary}
use Rattle.ck_types.proofs.InRange.{unary_if_ok}
use Rattle.ck_types.proofs.operators.UnaryOperator.apply.Goals as goal

pub returns-clause-range : goal.returns-clause-range
returns-clause-range c =
    let value : c.typed.result ≡ unary c.args.self c.args.operand = search rules in
    unary_if_ok c.args.self c.args.operand c.typed.result value
