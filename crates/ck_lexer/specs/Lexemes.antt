-- The lexeme that a text begins with: white space, a comment, a marker or a pragma, which part tokens; a token, which
-- is the
-- longest that starts there (C99 6.4); or a fault. docs/TOKENS.md has the rules in words.
use Rattle.std.specs.Prelude.{◌≡◌, ◌≤◌, ◌<◌, ℕ, ◌+◌, Bool, true, false, ◌&&◌, List, length, take, slice_index}
use Rattle.std.specs.Prelude.{if◌then◌else◌}
use Rattle.std.specs.List.{prefix_len}
use Rattle.ck_base.specs.declared.refusals.Unsupported.{Unsupported}
use Rattle.ck_base.specs.declared.refusals.Unsupported.TheVariants.{U1, U2, U3, U4, U5, U6}
use Rattle.ck_base.specs.declared.tokens.TokenKind.TheVariants as KindVariant
use Rattle.ck_base.specs.Characters.{◌∈◌}
use Rattle.ck_lexer.specs.Bytes.{double_quote, is_line_feed, is_line_space, is_no_line_feed, is_quote, is_white_space}
use Rattle.ck_lexer.specs.Bytes.{quote}
use Rattle.ck_base.specs.IntegerConstants.{is_integer_constant}
use Rattle.ck_base.specs.CharacterConstants.{is_character_constant, is_string_literal}
use Rattle.ck_lexer.specs.FloatingConstants.{is_floating}
use Rattle.ck_lexer.specs.Keywords.{is_keyword, is_reserved_word}
use Rattle.ck_lexer.specs.Markers.{IsMarker, is_pragma}
use Rattle.ck_lexer.specs.Preprocessing.{is_identifier, is_number, is_quoted, is_preprocessing_token}
use Rattle.ck_lexer.specs.declared.lexemes.Lexeme.{Lexeme}
use Rattle.ck_lexer.specs.declared.lexemes.Lexeme.TheVariants.{Trivia, Token, Fault}

-- a word of the grammar of identifiers: a keyword, an identifier, or a reserved word outside the subset
abbrev pub identifier_lexeme : List ℕ → Lexeme
identifier_lexeme text =
    if is_reserved_word text then Fault U5
    else if is_keyword text then Token KindVariant.Key
    else Token KindVariant.Word

-- a preprocessing number: an integer constant, a floating constant, or neither
abbrev pub number_lexeme : List ℕ → Lexeme
number_lexeme text =
    if is_integer_constant text then Token KindVariant.Number
    else if is_floating text then Fault U4
    else Fault U3

abbrev pub character_lexeme : List ℕ → Lexeme
character_lexeme text = if is_character_constant text then Token KindVariant.Char else Fault U3

abbrev pub string_lexeme : List ℕ → Lexeme
string_lexeme text = if is_string_literal text then Token KindVariant.Text else Fault U3

-- which token a preprocessing token is, or which fault
unfoldable pub lexeme_of : List ℕ → Lexeme
lexeme_of text =
    if is_identifier text then identifier_lexeme text
    else if is_number text then number_lexeme text
    else if is_quoted quote text then character_lexeme text
    else if is_quoted double_quote text then string_lexeme text
    else Token KindVariant.Mark

-- the text begins with no token
abbrev pub BeginsNoToken : List ℕ → Type 0
BeginsNoToken rest = (n : ℕ) → n ≤ length rest → is_preprocessing_token (take n rest) ≡ false

-- the first `size` bytes are the longest token that the text begins with
pub record IsLongestToken (rest : List ℕ) (size : ℕ) : Type 0 where
  pub within : size ≤ length rest
  pub token : is_preprocessing_token (take size rest) ≡ true
  pub longest : (n : ℕ) → size < n → n ≤ length rest → is_preprocessing_token (take n rest) ≡ false

-- a token; a literal without its closing quote, which is passed over up to its line's end; or another byte
pub data IsTokenOrFault (rest : List ℕ) : ℕ → Lexeme → Type 0 where
  token : (size : ℕ) → IsLongestToken rest size → IsTokenOrFault rest size (lexeme_of (take size rest))
  unclosed : BeginsNoToken rest → is_quote (slice_index rest 0) ≡ true
      → IsTokenOrFault rest (prefix_len is_no_line_feed rest) (Fault U2)
  bad : BeginsNoToken rest → is_quote (slice_index rest 0) ≡ false → IsTokenOrFault rest 1 (Fault U1)

-- `*/` is at this offset
abbrev pub closes_at : List ℕ → ℕ → Bool
closes_at rest k = slice_index rest k ∈ "*" && slice_index rest (k + 1) ∈ "/"

-- a comment from `/*` to the first `*/` after it (6.4.9); without one it is passed over up to the file's end
pub data IsComment (rest : List ℕ) : ℕ → Lexeme → Type 0 where
  closed : (k : ℕ) → 2 ≤ k → closes_at rest k ≡ true → ((j : ℕ) → 2 ≤ j → j < k → closes_at rest j ≡ false)
      → IsComment rest (k + 2) Trivia
  open_ : ((k : ℕ) → 2 ≤ k → closes_at rest k ≡ false) → IsComment rest (length rest) (Fault U2)

-- a line that begins with `#`: a marker, a pragma, or a bad marker, which is passed over
pub data IsDirective (line : List ℕ) : Lexeme → Type 0 where
  pragma : is_pragma line ≡ true → IsDirective line Trivia
  marker : (number : ℕ) (name : List ℕ) → IsMarker line number name → IsDirective line Trivia
  bad : is_pragma line ≡ false → ((number : ℕ) (name : List ℕ) → IsMarker line number name → ⊥)
      → IsDirective line (Fault U6)

-- how a lexeme begins: with white space, with `/*`, with `//`, with the `#` of a line of its own, or otherwise
pub data Beginning : Type 0 where
  WhiteSpace : Beginning
  Block : Beginning
  Line : Beginning
  Hash : Beginning
  Other : Beginning

abbrev pub begins_block : List ℕ → Bool
begins_block rest = slice_index rest 0 ∈ "/" && slice_index rest 1 ∈ "*"

abbrev pub begins_line_comment : List ℕ → Bool
begins_line_comment rest = slice_index rest 0 ∈ "/" && slice_index rest 1 ∈ "/"

-- `clear` says that the line is blank so far, so that a `#` begins a line of its own
abbrev pub beginning_of : Bool → List ℕ → Beginning
beginning_of clear rest =
    if is_white_space (slice_index rest 0) then WhiteSpace
    else if begins_block rest then Block
    else if begins_line_comment rest then Line
    else if slice_index rest 0 ∈ "#" && clear then Hash
    else Other

-- how many bytes of white space are one lexeme: a line feed alone, or all up to a line feed or another byte
abbrev pub white_space_size : List ℕ → ℕ
white_space_size rest = if is_line_feed (slice_index rest 0) then 1 else prefix_len is_line_space rest

-- the lexeme of a text that begins so: how many bytes it takes, and what it is
abbrev pub IsLexemeOf : Beginning → List ℕ → ℕ → Lexeme → Type 0
IsLexemeOf WhiteSpace rest size lexeme = (size ≡ white_space_size rest) × (lexeme ≡ Trivia)
IsLexemeOf Block rest size lexeme = IsComment rest size lexeme
IsLexemeOf Line rest size lexeme = (size ≡ prefix_len is_no_line_feed rest) × (lexeme ≡ Trivia)
IsLexemeOf Hash rest size lexeme =
    (size ≡ prefix_len is_no_line_feed rest) × IsDirective (take (prefix_len is_no_line_feed rest) rest) lexeme
IsLexemeOf Other rest size lexeme = IsTokenOrFault rest size lexeme

-- the first `size` bytes of what is left of a file are this lexeme
abbrev pub IsFirstLexeme : Bool → List ℕ → ℕ → Lexeme → Type 0
IsFirstLexeme clear rest size lexeme = (0 < length rest) × IsLexemeOf (beginning_of clear rest) rest size lexeme

-- how many bytes a refusal marks: of an unclosed comment or literal and of a bad marker the first, else all
abbrev pub marked_size : Unsupported → ℕ → ℕ
marked_size U2 size = 1
marked_size U6 size = 1
marked_size _ size = size
