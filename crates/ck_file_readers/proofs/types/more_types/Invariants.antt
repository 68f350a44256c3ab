use Rattle.std.proofs.Common.{ℕ, ◌-◌, length}
use Rattle.ck_file_readers.proofs.TypeLists.{TypesSoFar}
use Rattle.ck_file_readers.specs.Sources.{IsSameFile, ReadsEach}
use Rattle.ck_file_readers.specs.Steps.{declarator_in}
use Rattle.ck_file_readers.proofs.types.more_types.Given as goal

-- the source is of the same file, and the declarators so far are the row
abbrev pub invariant-row : goal.invariant-row
invariant-row g l =
    IsSameFile l.fn.source l.source
    × ((n : ℕ) → ReadsEach g.T.Building.declarator (declarator_in n) (goal.D-post g l.declarator)
    → TypesSoFar n (g.T.BuildingDeclarations.more_declared l.row) l.fn.source l.source l.at l.here
    (length l.fn.source.tokens - l._step))
