-- How the code goes over the bytes, from the first on. Private contracts alone speak of it; proofs/ join it with the
-- definitions.
use Rattle.std.specs.Prelude.{ℕ, suc, ◌+◌, ◌-◌, Bool, true, ◌||◌, ◌&&◌, not, ◌==◌, nat_le, List, [], ◌∷◌, length, min}
use Rattle.std.specs.Prelude.{false, take, drop, codes, slice_index, Option, Some, None, if◌then◌else◌}
use Rattle.std.specs.List.{list_any, prefix_len}
use Rattle.std.specs.Option.{option_map, unwrap_or}
use Rattle.ck_base.specs.declared.refusals.Refusal.{Refusal}
use Rattle.ck_base.specs.declared.tokens.Token.{Token}
use Rattle.ck_base.specs.CharacterConstants.{is_simple_escape}
use Rattle.ck_base.specs.Characters.{◌∈◌, backslash, is_digit, is_octal_digit, is_hexadecimal_digit}
use Rattle.ck_base.specs.IntegerConstants.{value_of}
use Rattle.ck_lexer.specs.Bytes.{double_quote, quote, is_blank, is_line_feed}
use Rattle.ck_lexer.specs.Markers.{is_flag, hash}
use Rattle.ck_lexer.specs.Lexemes.{character_lexeme, string_lexeme}
use Rattle.ck_lexer.specs.Preprocessing.{goes_on}
use Rattle.ck_lexer.specs.Tokens.{AreTokensBetween, IsFirstFault}
use Rattle.ck_lexer.specs.declared.lexemes.Lexeme.{Lexeme}
use Rattle.ck_lexer.specs.declared.numbers.Base.{Base}
use Rattle.ck_lexer.specs.declared.numbers.Base.TheVariants.{Decimal, Octal, Hexadecimal}
use Rattle.ck_lexer.specs.declared.markers.Marked.{Marked}
use Rattle.ck_lexer.specs.declared.literals.Step.{Step}
use Rattle.ck_lexer.specs.declared.literals.Step.TheVariants.{On, Closed, Broken}

-- the base that the code has, as a number
abbrev pub number_of : Base → ℕ
number_of Decimal = 10
number_of Octal = 8
number_of Hexadecimal = 16

-- how many bytes of a number follow a byte of it
abbrev pub run_after : ℕ → List ℕ → ℕ
run_after last [] = 0
run_after last (b ∷ text) = if goes_on last b then suc (run_after b text) else 0

abbrev pub moved_by : ℕ → Option ℕ → Option ℕ
moved_by k found = option_map (λ n. n + k) found

-- how many bytes of a literal follow its first quote, up to and with the quote that closes it
abbrev pub closing : ℕ → List ℕ → Option ℕ
closing mark [] = None
closing mark (b ∷ []) = if b == mark then Some 1 else None
closing mark (b ∷ c ∷ text) =
    if b == backslash then (if is_line_feed c then None else option_map (λ n. n + 2) (closing mark text))
    else if b == mark then Some 1
    else if is_line_feed b then None
    else option_map (λ n. n + 1) (closing mark (c ∷ text))

abbrev pub is_one_of : List ℕ → ℕ → Bool
is_one_of bytes b = list_any (λ x. b == x) bytes

abbrev pub is_shift_assignment : ℕ → ℕ → ℕ → Bool
is_shift_assignment a b c = is_one_of (codes "<>") a && b == a && c ∈ "="

abbrev pub is_ellipsis : ℕ → ℕ → ℕ → Bool
is_ellipsis a b c = a ∈ "." && b ∈ "." && c ∈ "."

abbrev pub is_pair : ℕ → ℕ → Bool
is_pair a b =
    (b ∈ "=" && is_one_of (codes "<>=!*/%+-&^|") a) || (b == a && is_one_of (codes "+-<>&|") a) || (a ∈ "-" && b ∈ ">")

abbrev pub is_single : ℕ → Bool
is_single a = is_one_of (codes "[](){}.&*+-~!/%<>^|?:;=,") a

-- how many bytes the longest punctuator that the text begins with takes
abbrev pub punctuator_size : List ℕ → ℕ
punctuator_size rest =
    if is_shift_assignment (slice_index rest 0) (slice_index rest 1) (slice_index rest 2)
    || is_ellipsis (slice_index rest 0) (slice_index rest 1) (slice_index rest 2) then 3
    else if is_pair (slice_index rest 0) (slice_index rest 1) then 2
    else if is_single (slice_index rest 0) then 1
    else 0

-- what comes first in the rest of a literal after its first quote
abbrev pub literal_step : ℕ → List ℕ → Step
literal_step mark [] = Broken
literal_step mark (b ∷ []) = if b == mark then Closed else Broken
literal_step mark (b ∷ c ∷ text) =
    if b == backslash then (if is_line_feed c then Broken else On 2)
    else if b == mark then Closed
    else if is_line_feed b then Broken
    else On 1

-- How many bytes an escape takes after its backslash, and how many the first character takes, where it has a value.
abbrev pub size_if_byte : ℕ → ℕ → Option ℕ
size_if_byte value size = if nat_le value 255 then Some size else None

abbrev pub octal_length : List ℕ → ℕ
octal_length text = min 3 (prefix_len is_octal_digit text)

abbrev pub hexadecimal_length : List ℕ → Option ℕ
hexadecimal_length digits =
    if prefix_len is_hexadecimal_digit digits == 0 then None
    else size_if_byte (value_of 16 (take (prefix_len is_hexadecimal_digit digits) digits))
    (prefix_len is_hexadecimal_digit digits + 1)

abbrev pub escape_length : List ℕ → Option ℕ
escape_length text =
    if is_simple_escape (slice_index text 0) then Some 1
    else if is_octal_digit (slice_index text 0) then size_if_byte (value_of 8 (take (octal_length text) text))
    (octal_length text)
    else if slice_index text 0 ∈ "x" then hexadecimal_length (drop 1 text)
    else None

abbrev pub after_backslash : Option ℕ → Option ℕ
after_backslash None = None
after_backslash (Some size) = Some (size + 1)

abbrev pub character_length : List ℕ → Option ℕ
character_length text =
    if slice_index text 0 == backslash then after_backslash (escape_length (drop 1 text))
    else Some 1

abbrev pub is_one_character : List ℕ → Bool
is_one_character [] = false
is_one_character (b ∷ text) = unwrap_or (character_length (b ∷ text)) 0 == length (b ∷ text)

-- a lexeme that begins with none of these bytes has no line feed, and is no marker
abbrev pub may_end_line : ℕ → Bool
may_end_line b = b ∈ "\n/#"

-- flags, from the first byte on; `blanks` says that blanks were just passed
abbrev pub flags_from : Bool → List ℕ → Bool
flags_from blanks [] = not blanks
flags_from false (b ∷ text) = is_blank b && flags_from true text
flags_from true (b ∷ text) = (is_blank b && flags_from true text) || (is_flag b && flags_from false text)

abbrev pub are_flags : List ℕ → Bool
are_flags text = flags_from false text

-- what is left after the blanks that come first
abbrev pub after_blanks : List ℕ → List ℕ
after_blanks text = drop (prefix_len is_blank text) text

-- A line marker, read step by step, each step over what is left of the line: its flags, its name after the quote, the
-- quote, its digits, and the whole line from its `#`.
abbrev pub marker_flags : ℕ → List ℕ → List ℕ → Option (ℕ × List ℕ)
marker_flags number name text = if are_flags text then Some (number, name) else None

abbrev pub marker_end : ℕ → List ℕ → Option ℕ → Option (ℕ × List ℕ)
marker_end number text None = None
marker_end number text (Some n) = marker_flags number (take (n - 1) text) (drop n text)

abbrev pub marker_name : ℕ → List ℕ → Option (ℕ × List ℕ)
marker_name number [] = None
marker_name number (b ∷ text) = if b == double_quote then marker_end number text (closing double_quote text) else None

abbrev pub marker_digits : ℕ → List ℕ → Option (ℕ × List ℕ)
marker_digits n text =
    if nat_le 1 n && nat_le n 9 then marker_name (value_of 10 (take n text)) (after_blanks (drop n text)) else None

abbrev pub marker_number : List ℕ → Option (ℕ × List ℕ)
marker_number text = marker_digits (prefix_len is_digit text) text

abbrev pub marker_of : List ℕ → Option (ℕ × List ℕ)
marker_of [] = None
marker_of (b ∷ text) = if b == hash then marker_number (after_blanks text) else None

-- what the code has of a marker
abbrev pub marked_parts : Marked → ℕ × List ℕ
marked_parts m = (m.number, m.name.now)

-- a literal with both its quotes, by the first
abbrev pub literal_lexeme : List ℕ → Lexeme
literal_lexeme text = if slice_index text 0 == quote then character_lexeme text else string_lexeme text

-- what is read of a file up to an offset: its tokens so far, or its first fault
abbrev pub IsReadTo : ℕ → List ℕ → List Token → Option Refusal → ℕ → Type 0
IsReadTo file bytes tokens None at = AreTokensBetween file bytes 0 tokens at
IsReadTo file bytes tokens (Some refusal) at = IsFirstFault file bytes refusal
