use Rattle.std.proofs.Common.{ℕ, suc, ◌-◌, length}
use Rattle.ck_file_readers.proofs.FileLoop.{FileSoFar}
use Rattle.ck_file_readers.specs.Sources.{IsSameFile, ReadsEach, RowsEach}
use Rattle.ck_file_readers.specs.Steps.{body_in, declarator_in, init_in, specifiers_in}
use Rattle.ck_grammar.specs.Statements.{NoBlockItems}
use Rattle.ck_grammar.specs.Trees.{NoSpecifiers}
use Rattle.ck_file_readers.proofs.files.file.Given as goal

-- the source is of the same file, and the external declarations so far are the row
abbrev pub invariant-row : goal.invariant-row
invariant-row g l =
    IsSameFile l.fn.source l.source
    × ((n : ℕ)
    → ReadsEach (λ row. g.T.Building.specifiers row NoSpecifiers) (specifiers_in (suc n)) (goal.S-post g l.specifiers)
    → ReadsEach g.T.Building.declarator (declarator_in (suc n)) (goal.D-post g l.declarator)
    → ReadsEach g.T.BuildingDeclarations.init (init_in (suc n)) (goal.I-post g l.init)
    → RowsEach (λ row. g.T.BuildingStatements.block_items row NoBlockItems) (body_in n) (goal.B-post g l.body)
    → FileSoFar n (g.T.BuildingStatements.unit l.row) l.fn.source l.source l.here
    (length l.fn.source.tokens - l._step))
