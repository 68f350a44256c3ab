use Rattle.std.proofs.Common.{◌-◌, length}
use Rattle.ck_grammar.specs.Levels.{Level}
use Rattle.ck_grammar.specs.Readers.{Reader}
use Rattle.ck_grammar.specs.ReadingExpressions.{suffix_loop}
use Rattle.ck_grammar.specs.Trees.{Expr, NoSuffixes}
use Rattle.ck_readers.proofs.Loops.{SoFar}
use Rattle.ck_readers.specs.Places.{ReadsLevels}
use Rattle.ck_readers.specs.SourceView.{words}
use Rattle.ck_readers.specs.Steps.{suffix_step}
use Rattle.ck_readers.proofs.suffixes.suffixes.Given as goal

abbrev pub invariant-suffixes : goal.invariant-suffixes
invariant-suffixes g l =
    (inner : Level → Reader Expr) → ReadsLevels g.T.Building.expr inner l.source.tokens (goal.E-post g l.expr)
    → SoFar NoSuffixes (suffix_step (words l.source) inner) (suffix_loop (words l.source) inner)
    (g.T.Building.suffixes l.row) l.source.tokens l.at l.next (length l.source.tokens - l._step)
