use Rattle.std.proofs.Common.{◌-◌, length}
use Rattle.ck_grammar.specs.Readers.{Reader}
use Rattle.ck_grammar.specs.ReadingTypes.{more_loop}
use Rattle.ck_grammar.specs.Trees as plain
use Rattle.ck_readers.proofs.Loops.{SoFar}
use Rattle.ck_readers.specs.Places.{Reads}
use Rattle.ck_readers.specs.SourceView.{words}
use Rattle.ck_type_readers.specs.Steps.{more_step}
use Rattle.ck_type_readers.specs.Views.{ended}
use Rattle.ck_type_readers.proofs.param_lists.more_params.Given as goal

abbrev pub invariant-row : goal.invariant-row
invariant-row g l =
    (of : Reader plain.Specifiers) (inner : Reader plain.Declarator)
    → Reads (ended g.T.Building.specifiers plain.NoSpecifiers) of l.source.tokens (goal.S-post g l.specifiers)
    → Reads g.T.Building.declarator inner l.source.tokens (goal.D-post g l.declarator)
    → SoFar plain.NoMore (more_step (words l.source) of inner) (more_loop (words l.source) of inner)
    (g.T.Building.more_params l.row) l.source.tokens l.fn.at l.here (length l.source.tokens - l._step)
