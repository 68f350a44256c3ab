-- How whole projects are stated: for each file its lines, with one blank between two tokens; `@` stands before the
-- token at which the project is refused. For worked texts alone.
use Rattle.std.proofs.Common.{◌≡◌}
use Rattle.std.specs.Prelude.{ℕ, suc, ◌+◌, Bool, List, [], ◌∷◌, ◌++◌, length, codes, Option, Some, None}
use Rattle.std.specs.Prelude.{if◌then◌else◌}
use Rattle.std.specs.List.{join_with_byte}
use Rattle.std.specs.Option.{option_map}
use Rattle.std.specs.Str.{bytes_eq}
use Rattle.ck_base.specs.declared.refusals.Unsupported.{Unsupported}
use Rattle.ck_grammar.specs.ReadingStatements.{file_at}
use Rattle.ck_grammar.specs.Statements.{External}
use Rattle.ck_grammar.specs.Words.{words}
use Rattle.ck_prog.specs.Refused.{RefusedAt, refused, first_refused, linking, typing}
use Rattle.ck_prog.specs.SettingsNames.{NamesNothing, names_nothing}
use Rattle.ck_prog.specs.TypedFiles.{ReadFile, declarations}
use Rattle.ck_prog.proofs.Texts.{tokens_from}
use Prim.Native.String.{String}

-- the names in a project's settings
pub record Named : Type 0 where
  pub vectors : List (List ℕ)
  pub callbacks : List (List ℕ × List ℕ)
  pub functions : List (List ℕ)

abbrev pub nothing_named : Named
nothing_named = record { vectors = []; callbacks = []; functions = [] }

pub data Answer : Type 0 where
  AcceptedProject : Answer
  -- at this offset of this file
  RefusedProject : Unsupported → ℕ → ℕ → Answer
  MissingName : NamesNothing → Answer
  -- a file is none of the grammar
  Unread : Answer

-- texts --------------------------------------------------------------------------------------------------------------

abbrev pub File : Type 0
File = List String

abbrev is_mark : List ℕ → Bool
is_mark text = bytes_eq text (codes "@")

abbrev without_mark : List (List ℕ) → List (List ℕ)
without_mark [] = []
without_mark (text ∷ texts) = if is_mark text then texts else text ∷ without_mark texts

-- where the token after the mark begins
abbrev marked_from : ℕ → List (List ℕ) → Option ℕ
marked_from start [] = None
marked_from start (text ∷ texts) = if is_mark text then Some start else marked_from (suc (start + length text)) texts

abbrev words_of : File → List (List ℕ)
words_of [] = []
words_of (line ∷ lines) = words line ++ words_of lines

abbrev with_bytes : List ℕ → List External → ReadFile
with_bytes bytes xs = record { bytes = bytes; externals = xs }

abbrev read_words : ℕ → List (List ℕ) → Option ReadFile
read_words k texts =
    let bytes = join_with_byte 32 texts in option_map (with_bytes bytes) (file_at bytes (tokens_from k 0 texts))

abbrev with_first : Option ReadFile → Option (List ReadFile) → Option (List ReadFile)
with_first (Some f) (Some fs) = Some (f ∷ fs)
with_first _ _ = None

abbrev pub read_from : ℕ → List File → Option (List ReadFile)
read_from k [] = Some []
read_from k (f ∷ fs) = with_first (read_words k (without_mark (words_of f))) (read_from (suc k) fs)

-- answers ------------------------------------------------------------------------------------------------------------

abbrev refused_or : Option RefusedAt → Answer → Answer
refused_or None later = later
refused_or (Some r) later = RefusedProject r.number r.at.span.file r.at.span.start

abbrev missing_or : Option NamesNothing → Answer → Answer
missing_or None later = later
missing_or (Some name) later = MissingName name

-- first the files are linked, then the names of the settings are looked up, then the files are typed
abbrev answer_of : Named → Option (List ReadFile) → Answer
answer_of named None = Unread
answer_of named (Some files) =
    refused_or (first_refused (refused linking named.functions files))
    (missing_or (names_nothing (declarations files) named.vectors named.callbacks)
    (refused_or (first_refused (refused typing named.functions files)) AcceptedProject))

abbrev pub answer : Named → List File → Answer
answer named files = answer_of named (read_from 0 files)

abbrev refused_at_or : Unsupported → ℕ → Option ℕ → Answer → Answer
refused_at_or number k (Some start) later = RefusedProject number k start
refused_at_or number k None later = later

abbrev at_mark_from : Unsupported → ℕ → List File → Answer
at_mark_from number k [] = AcceptedProject
at_mark_from number k (f ∷ fs) =
    refused_at_or number k (marked_from 0 (words_of f)) (at_mark_from number (suc k) fs)

-- statements ---------------------------------------------------------------------------------------------------------

-- these files are accepted; they are refused by this number at the mark; so with these names in the settings
abbrev pub Accepted : List File → Type 0
Accepted files = answer nothing_named files ≡ AcceptedProject

abbrev pub AcceptedWith : Named → List File → Type 0
AcceptedWith named files = answer named files ≡ AcceptedProject

abbrev pub Refused : Unsupported → List File → Type 0
Refused number files = answer nothing_named files ≡ at_mark_from number 0 files

abbrev pub RefusedWith : Named → Unsupported → List File → Type 0
RefusedWith named number files = answer named files ≡ at_mark_from number 0 files

-- some file is none of the grammar
abbrev pub OutsideGrammar : List File → Type 0
OutsideGrammar files = answer nothing_named files ≡ Unread

-- a name of the settings names nothing
abbrev pub Missing : Named → NamesNothing → List File → Type 0
Missing named name files = answer named files ≡ MissingName name
