use Rattle.std.proofs.Common.{◌-◌, length}
use Rattle.ck_grammar.specs.Readers.{Reader}
use Rattle.ck_grammar.specs.Trees as plain
use Rattle.ck_readers.specs.Places.{Reads}
use Rattle.ck_readers.specs.SourceView.{words}
use Rattle.ck_type_readers.specs.Views.{ended}
use Rattle.ck_type_readers.proofs.SpecifierLoops.{SoFar}
use Rattle.ck_type_readers.proofs.specifier_lists.all_specifiers.Given as goal

abbrev pub invariant-row : goal.invariant-row
invariant-row g l =
    (inside : Reader plain.Members) (listed : Reader plain.Enumerators)
    → Reads (ended g.T.Building.members plain.NoMembers) inside l.source.tokens (goal.M-post g l.members)
    → Reads g.T.Building.enumerators listed l.source.tokens (goal.N-post g l.enumerators)
    → SoFar (words l.source) inside listed (g.T.Building.specifiers l.row) l.tally l.source.tokens l.fn.at l.here
    (length l.source.tokens - l._step)
