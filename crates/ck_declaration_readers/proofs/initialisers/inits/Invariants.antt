use Rattle.std.proofs.Common.{◌-◌, length}
use Rattle.ck_grammar.specs.Readers.{Reader}
use Rattle.ck_grammar.specs.ReadingStatements as reading
use Rattle.ck_grammar.specs.Statements.{Init}
use Rattle.ck_grammar.specs.Trees.{Expr}
use Rattle.ck_readers.specs.Places.{Reads}
use Rattle.ck_readers.specs.SourceView.{words}
use Rattle.ck_declaration_readers.proofs.Links.{Linked}
use Rattle.ck_declaration_readers.proofs.initialisers.inits.Given as goal

abbrev pub invariant-row : goal.invariant-row
invariant-row g l =
    (e : Reader Expr) (i : Reader Init) → Reads g.T.Building.expr e l.source.tokens (goal.E-post g l.index)
    → Reads g.T.BuildingDeclarations.init i l.source.tokens (goal.I-post g l.inner)
    → Linked (reading.inits (words l.source) e i) (g.T.BuildingDeclarations.earlier_inits l.row) l.source.tokens l.at
    l.here (length l.source.tokens - l._step)
