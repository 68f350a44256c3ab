use Rattle.std.proofs.Common.{◌-◌, length}
use Rattle.ck_grammar.specs.Readers.{Reader}
use Rattle.ck_grammar.specs.Statements.{Init, NoMoreDeclared}
use Rattle.ck_grammar.specs.Trees.{Declarator}
use Rattle.ck_readers.proofs.Loops.{SoFar}
use Rattle.ck_readers.specs.Places.{Reads}
use Rattle.ck_readers.specs.SourceView.{words}
use Rattle.ck_declaration_readers.specs.Steps.{declared_loop, declared_step}
use Rattle.ck_declaration_readers.proofs.declarations.more_declared.Given as goal

abbrev pub invariant-row : goal.invariant-row
invariant-row g l =
    (d : Reader Declarator) (i : Reader Init)
    → Reads g.T.Building.declarator d l.source.tokens (goal.D-post g l.declarator)
    → Reads g.T.BuildingDeclarations.init i l.source.tokens (goal.I-post g l.init)
    → SoFar NoMoreDeclared (declared_step (words l.source) d i) (declared_loop (words l.source) d i)
    (g.T.BuildingDeclarations.more_declared l.row) l.source.tokens l.at l.here (length l.source.tokens - l._step)
