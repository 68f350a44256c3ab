use Rattle.ck_grammar.specs.Levels.{Level}
use Rattle.ck_grammar.specs.Readers.{Reader}
use Rattle.ck_grammar.specs.ReadingExpressions.{level_reader, in_parens}
use Rattle.ck_grammar.specs.Trees.{Expr, Specifiers, Declarator}
use Rattle.ck_readers.specs.Places.{IsRead, ReadsLevels, Reads}
use Rattle.ck_readers.specs.SourceView.{words}
use Rattle.ck_readers.proofs.levels.expression.Given as goal

abbrev pub invariant-levels : goal.invariant-levels
invariant-levels g l =
    (inner : Level → Reader Expr) (ty : Reader (Specifiers × Declarator))
    → ReadsLevels g.T.Building.expr inner l.source.tokens (goal.E-post g l.expr)
    → Reads g.T.Building.type_name (in_parens (words l.source) ty) l.source.tokens (goal.N-post g l.type_name)
    → IsRead g.T.Building.expr (level_reader (words l.source) inner ty l.depth l.tighter) l.source.tokens l.at
    (l.tree, l.next)
