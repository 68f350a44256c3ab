use Rattle.ck_syntax.proofs.StatementEquations.{statement_tree-Block}
use Rattle.ck_syntax.proofs.statements.Stmt.block.Goals as goal

pub returns : goal.returns
returns g c = statement_tree-Block _ _ _
