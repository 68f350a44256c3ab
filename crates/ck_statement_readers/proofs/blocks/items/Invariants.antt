use Rattle.std.proofs.Common.{◌-◌, length}
use Rattle.ck_grammar.specs.Readers.{Reader}
use Rattle.ck_grammar.specs.ReadingStatements.{item, item_loop}
use Rattle.ck_grammar.specs.Statements.{Declaration, Statement, NoBlockItems}
use Rattle.ck_readers.proofs.Loops.{SoFar}
use Rattle.ck_readers.specs.Places.{Reads}
use Rattle.ck_readers.specs.SourceView.{words}
use Rattle.ck_statement_readers.proofs.blocks.items.Given as goal

abbrev pub invariant-row : goal.invariant-row
invariant-row g l =
    (d : Reader Declaration) (s : Reader Statement)
    → Reads g.T.BuildingDeclarations.declaration d l.source.tokens (goal.D-post g l.declaration)
    → Reads g.T.BuildingStatements.statement s l.source.tokens (goal.S-post g l.statement)
    → SoFar NoBlockItems (item (words l.source) d s) (item_loop (words l.source) d s)
    (g.T.BuildingStatements.block_items l.row) l.source.tokens l.at l.here (length l.source.tokens - l._step)
