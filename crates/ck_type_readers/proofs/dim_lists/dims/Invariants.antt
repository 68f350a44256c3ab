use Rattle.std.proofs.Common.{◌-◌, length}
use Rattle.ck_grammar.specs.Readers.{Reader}
use Rattle.ck_grammar.specs.ReadingTypes.{dim_loop}
use Rattle.ck_grammar.specs.Trees as plain
use Rattle.ck_readers.proofs.Loops.{SoFar}
use Rattle.ck_readers.specs.Places.{Reads}
use Rattle.ck_readers.specs.SourceView.{words}
use Rattle.ck_type_readers.specs.Steps.{dim_step}
use Rattle.ck_type_readers.proofs.dim_lists.dims.Given as goal

abbrev pub invariant-row : goal.invariant-row
invariant-row g l =
    (size : Reader plain.Expr) (list : Reader plain.Params)
    → Reads g.T.Building.expr size l.source.tokens (goal.E-post g l.expr)
    → Reads g.T.Building.params list l.source.tokens (goal.P-post g l.params)
    → SoFar plain.NoDims (dim_step (words l.source) size list) (dim_loop (words l.source) size list)
    (g.T.Building.dims l.row) l.source.tokens l.fn.at l.here (length l.source.tokens - l._step)
