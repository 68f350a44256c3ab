use Rattle.ck_grammar.proofs.ExpressionsComplete.{one_expression}
use Rattle.ck_grammar.proofs.laws.one_expression.Goals as goal

pub returns : goal.returns
returns c = one_expression
