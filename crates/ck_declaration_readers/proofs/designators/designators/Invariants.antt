use Rattle.std.proofs.Common.{◌-◌, length}
use Rattle.ck_grammar.specs.Readers.{Reader}
use Rattle.ck_grammar.specs.ReadingStatements.{designator_loop}
use Rattle.ck_grammar.specs.Trees.{Expr}
use Rattle.ck_readers.specs.Places.{Reads}
use Rattle.ck_readers.specs.SourceView.{words}
use Rattle.ck_declaration_readers.proofs.Links.{Linked}
use Rattle.ck_declaration_readers.proofs.designators.designators.Given as goal

abbrev pub invariant-row : goal.invariant-row
invariant-row g l =
    (e : Reader Expr) → Reads g.T.Building.expr e l.source.tokens (goal.E-post g l.index)
    → Linked (designator_loop (words l.source) e) (g.T.BuildingDeclarations.designators l.row) l.source.tokens l.at
    l.here (length l.source.tokens - l._step)
