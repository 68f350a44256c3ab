use Rattle.std.proofs.Common.{◌-◌, length}
use Rattle.ck_grammar.specs.Readers.{Reader}
use Rattle.ck_grammar.specs.Trees as plain
use Rattle.ck_readers.specs.Places.{Reads}
use Rattle.ck_readers.specs.SourceView.{words}
use Rattle.ck_type_readers.proofs.EnumeratorLoops.{SoFar}
use Rattle.ck_type_readers.proofs.enums.enumerators.Given as goal

abbrev pub invariant-row : goal.invariant-row
invariant-row g l =
    (value : Reader plain.Expr) → Reads g.T.Building.expr value l.source.tokens (goal.E-post g l.expr)
    → SoFar (words l.source) value (g.T.Building.earlier l.row) l.source.tokens l.fn.at l.here
    (length l.source.tokens - l._step)
