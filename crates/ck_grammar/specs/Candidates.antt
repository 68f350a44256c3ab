-- The one fixed word that a text can be, by its length and a byte or two of it: how `fixed_word` looks for it.
use Rattle.std.specs.Prelude.{ℕ, ◌==◌, List, length, Option, Some, None, if◌then◌else◌, slice_index}
use Rattle.std.specs.Str.{bytes_eq}
use Rattle.ck_base.specs.Characters.{◌∈◌}
use Rattle.ck_grammar.specs.FixedWords.{spelling}
use Rattle.ck_grammar.specs.declared.words.FixedWord.{FixedWord}
use Rattle.ck_grammar.specs.declared.words.FixedWord.TheVariants as word

abbrev pub of_one : ℕ → Option FixedWord
of_one first =
    if first ∈ "[" then Some word.LeftBracket
    else if first ∈ "]" then Some word.RightBracket
    else if first ∈ "(" then Some word.LeftParen
    else if first ∈ ")" then Some word.RightParen
    else if first ∈ "{" then Some word.LeftBrace
    else if first ∈ "}" then Some word.RightBrace
    else if first ∈ "." then Some word.Dot
    else if first ∈ "&" then Some word.And
    else if first ∈ "*" then Some word.Star
    else if first ∈ "+" then Some word.Plus
    else if first ∈ "-" then Some word.Minus
    else if first ∈ "~" then Some word.Tilde
    else if first ∈ "!" then Some word.Not
    else if first ∈ "/" then Some word.Slash
    else if first ∈ "%" then Some word.Percent
    else if first ∈ "<" then Some word.Less
    else if first ∈ ">" then Some word.Greater
    else if first ∈ "^" then Some word.Caret
    else if first ∈ "|" then Some word.Or
    else if first ∈ "?" then Some word.Question
    else if first ∈ ":" then Some word.Colon
    else if first ∈ ";" then Some word.Semicolon
    else if first ∈ "=" then Some word.Equal
    else if first ∈ "," then Some word.Comma
    else None

abbrev pub before_equals : ℕ → Option FixedWord
before_equals first =
    if first ∈ "<" then Some word.LessEqual
    else if first ∈ ">" then Some word.GreaterEqual
    else if first ∈ "=" then Some word.EqualEqual
    else if first ∈ "!" then Some word.NotEqual
    else if first ∈ "*" then Some word.StarEqual
    else if first ∈ "/" then Some word.SlashEqual
    else if first ∈ "%" then Some word.PercentEqual
    else if first ∈ "+" then Some word.PlusEqual
    else if first ∈ "-" then Some word.MinusEqual
    else if first ∈ "&" then Some word.AndEqual
    else if first ∈ "^" then Some word.CaretEqual
    else if first ∈ "|" then Some word.OrEqual
    else None

abbrev pub of_two : ℕ → ℕ → Option FixedWord
of_two first second =
    if second ∈ "=" then before_equals first
    else if second ∈ ">" then (if first ∈ "-" then Some word.Arrow else Some word.ShiftRight)
    else if second ∈ "<" then Some word.ShiftLeft
    else if second ∈ "+" then Some word.Increment
    else if second ∈ "-" then Some word.Decrement
    else if second ∈ "&" then Some word.AndAnd
    else if second ∈ "|" then Some word.OrOr
    else if second ∈ "o" then Some word.Do
    else if second ∈ "f" then Some word.If
    else None

abbrev pub of_three : ℕ → Option FixedWord
of_three first =
    if first ∈ "." then Some word.Ellipsis
    else if first ∈ "<" then Some word.ShiftLeftEqual
    else if first ∈ ">" then Some word.ShiftRightEqual
    else if first ∈ "f" then Some word.For
    else if first ∈ "i" then Some word.Int
    else None

abbrev pub of_four : ℕ → ℕ → Option FixedWord
of_four first third =
    if first ∈ "a" then Some word.Auto
    else if first ∈ "c" then (if third ∈ "s" then Some word.Case else Some word.Char)
    else if first ∈ "e" then (if third ∈ "s" then Some word.Else else Some word.Enum)
    else if first ∈ "g" then Some word.Goto
    else if first ∈ "l" then Some word.Long
    else if first ∈ "v" then Some word.Void
    else None

abbrev pub of_five : ℕ → Option FixedWord
of_five first =
    if first ∈ "b" then Some word.Break
    else if first ∈ "c" then Some word.Const
    else if first ∈ "s" then Some word.Short
    else if first ∈ "w" then Some word.While
    else if first ∈ "_" then Some word.Bool
    else None

abbrev pub of_six_with_s : ℕ → Option FixedWord
of_six_with_s third =
    if third ∈ "g" then Some word.Signed
    else if third ∈ "z" then Some word.Sizeof
    else if third ∈ "a" then Some word.Static
    else if third ∈ "r" then Some word.Struct
    else if third ∈ "i" then Some word.Switch
    else None

abbrev pub of_six : ℕ → ℕ → Option FixedWord
of_six first third =
    if first ∈ "e" then Some word.Extern
    else if first ∈ "i" then Some word.Inline
    else if first ∈ "r" then Some word.Return
    else if first ∈ "s" then of_six_with_s third
    else None

abbrev pub of_seven : ℕ → Option FixedWord
of_seven first =
    if first ∈ "d" then Some word.Default
    else if first ∈ "t" then Some word.Typedef
    else None

abbrev pub of_eight : ℕ → ℕ → Option FixedWord
of_eight first third =
    if first ∈ "c" then Some word.Continue
    else if first ∈ "r" then (if third ∈ "g" then Some word.Register else Some word.Restrict)
    else if first ∈ "u" then Some word.Unsigned
    else if first ∈ "v" then Some word.Volatile
    else None

abbrev pub candidate : List ℕ → Option FixedWord
candidate text =
    if length text == 1 then of_one (slice_index text 0)
    else if length text == 2 then of_two (slice_index text 0) (slice_index text 1)
    else if length text == 3 then of_three (slice_index text 0)
    else if length text == 4 then of_four (slice_index text 0) (slice_index text 2)
    else if length text == 5 then of_five (slice_index text 0)
    else if length text == 6 then of_six (slice_index text 0) (slice_index text 2)
    else if length text == 7 then of_seven (slice_index text 0)
    else if length text == 8 then of_eight (slice_index text 0) (slice_index text 2)
    else None

-- the candidate, where the text is its own
abbrev pub if_spelled : List ℕ → Option FixedWord → Option FixedWord
if_spelled text None = None
if_spelled text (Some found) = if bytes_eq (spelling found) text then Some found else None

abbrev pub word_of : List ℕ → Option FixedWord
word_of text = if_spelled text (candidate text)
