use Rattle.ck_readers.proofs.ExpressionLoops.{Literals}
use Rattle.ck_readers.specs.SourceView.{words}
use Rattle.ck_readers.proofs.primary.neighbours.Given as goal

abbrev pub invariant-literals : goal.invariant-literals
invariant-literals g l =
    Literals (words l.source) (g.T.Building.tokens l.row) l.source.tokens l.at l.next
