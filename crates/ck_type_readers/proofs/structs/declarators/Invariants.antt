use Rattle.std.proofs.Common.{◌-◌, length}
use Rattle.ck_grammar.specs.Readers.{Reader}
use Rattle.ck_grammar.specs.ReadingTypes.{declarator_loop}
use Rattle.ck_grammar.specs.Trees as plain
use Rattle.ck_readers.proofs.Loops.{SoFar}
use Rattle.ck_readers.specs.Places.{Reads}
use Rattle.ck_readers.specs.SourceView.{words}
use Rattle.ck_type_readers.specs.Steps.{declarator_step}
use Rattle.ck_type_readers.proofs.structs.declarators.Given as goal

abbrev pub invariant-row : goal.invariant-row
invariant-row g l =
    (inner : Reader plain.Declarator) → Reads g.T.Building.declarator inner l.source.tokens (goal.D-post g l.declarator)
    → SoFar plain.NoDeclarators (declarator_step (words l.source) inner) (declarator_loop (words l.source) inner)
    (g.T.Building.declarators l.row) l.source.tokens l.fn.at l.here (length l.source.tokens - l._step)
