-- How rows of expressions after a file are stated. For worked texts alone.
use Rattle.std.specs.Prelude.{◌≡◌, ◌++◌, ◌&&◌, not, is_some, ℕ, Bool, true, List, [], ◌∷◌, codes}
use Rattle.ck_grammar.specs.ReadingStatements.{file_at}
use Rattle.ck_grammar.specs.Words.{words_in}
use Rattle.ck_prog.proofs.Texts.{tokens_from, or_empty, after_externals, in_text, sense_of_read, expression_of}
use Rattle.ck_prog.specs.Declarations.{Place}
use Rattle.ck_prog.specs.Senses.{Sense, is_fixed_value}
use Prim.Native.String.{String}

-- the bytes of a file by its lines
abbrev bytes_of : List String → List ℕ
bytes_of [] = []
bytes_of (line ∷ []) = codes line
bytes_of (line ∷ more ∷ rest) = codes line ++ (codes " " ++ bytes_of (more ∷ rest))

-- the place after a file
abbrev after_bytes : List ℕ → Place
after_bytes bytes =
    after_externals (record { declared = []; file = 0; bytes = bytes; scope = [] })
    (or_empty (file_at bytes (tokens_from 0 0 (words_in bytes))))

abbrev sense_after : Place → String → Sense
sense_after p e = sense_of_read (in_text p e) (expression_of [] e)

-- all expressions pass a test
abbrev all_pass : (Sense → Bool) → Place → List String → Bool
all_pass test p [] = true
all_pass test p (e ∷ es) = test (sense_after p e) && all_pass test p es

abbrev All : (Sense → Bool) → List String → List String → Type 0
All test lines es = all_pass test (after_bytes (bytes_of lines)) es ≡ true

-- they have a type, and they have none
abbrev pub HaveTypes : List String → List String → Type 0
HaveTypes = All (λ s. is_some s.type)

abbrev pub LackTypes : List String → List String → Type 0
LackTypes = All (λ s. not (is_some s.type))

-- their values are address constants or numbers (6.6), and they aren't
abbrev pub AreFixed : List String → List String → Type 0
AreFixed = All is_fixed_value

abbrev pub AreNotFixed : List String → List String → Type 0
AreNotFixed = All (λ s. not (is_fixed_value s))

-- they are null pointer constants (6.3.2.3), and they aren't
abbrev pub AreNull : List String → List String → Type 0
AreNull = All (λ s. s.null)

abbrev pub AreNotNull : List String → List String → Type 0
AreNotNull = All (λ s. not s.null)
