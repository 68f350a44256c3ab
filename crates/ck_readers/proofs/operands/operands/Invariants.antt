use Rattle.std.proofs.Common.{◌-◌, length}
use Rattle.ck_grammar.specs.Levels.{Level}
use Rattle.ck_grammar.specs.Readers.{Reader}
use Rattle.ck_grammar.specs.ReadingExpressions.{operand_loop}
use Rattle.ck_grammar.specs.Trees.{Expr, NoOperands}
use Rattle.ck_readers.proofs.Loops.{SoFar}
use Rattle.ck_readers.specs.Places.{ReadsLevels}
use Rattle.ck_readers.specs.SourceView.{words}
use Rattle.ck_readers.specs.Steps.{operand_step}
use Rattle.ck_readers.proofs.operands.operands.Given as goal

abbrev pub invariant-operands : goal.invariant-operands
invariant-operands g l =
    (inner : Level → Reader Expr) → ReadsLevels g.T.Building.expr inner l.source.tokens (goal.E-post g l.expr)
    → SoFar NoOperands (operand_step (words l.source) (inner l.tighter) l.of)
    (operand_loop (words l.source) (inner l.tighter) l.of) (g.T.Building.operands l.row) l.source.tokens l.at l.next
    (length l.source.tokens - l._step)
