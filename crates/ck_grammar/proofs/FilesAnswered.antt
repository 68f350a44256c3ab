-- The reader of files answers the file that the tokens spell, and nothing where they spell none.
use Rattle.std.proofs.Common.{◌≡◌, ℕ, ◌-◌, List, [], length, Option, Some, None, refl, sym, ◌∙◌}
use Rattle.std.proofs.lemmas.Option.{none-some}
use Rattle.ck_base.specs.declared.tokens.Token.{Token}
use Rattle.ck_grammar.proofs.FilesComplete.{spelled_file_is_read}
use Rattle.ck_grammar.proofs.StatementsSound.{IsFile, file_is_spelled}
use Rattle.ck_grammar.specs.Answers.{AnswersFile, ReadsFiles}
use Rattle.ck_grammar.specs.ReadingStatements.{file_at}
use Rattle.ck_grammar.specs.Spelling.{SpellsFile, most}
use Rattle.ck_grammar.specs.Statements.{External}

is_file : (bytes : List ℕ) (tokens : List Token) (xs : List External) → IsFile bytes [] most tokens xs
    → SpellsFile xs bytes tokens
is_file bytes tokens xs h = record { tokens_are = h.tokens_are; fits = h.fits; nests = h.nests }

answered : (bytes : List ℕ) (tokens : List Token) (read : Option (List External)) → file_at bytes tokens ≡ read
    → AnswersFile bytes tokens read
answered bytes tokens None is = λ xs h. none-some xs (sym is ∙ spelled_file_is_read bytes tokens xs h)
answered bytes tokens (Some xs) is =
    is_file bytes tokens xs (file_is_spelled bytes (most - 1) (length tokens) [] tokens xs is)

pub reads_files : ReadsFiles
reads_files bytes tokens = answered bytes tokens (file_at bytes tokens) refl
