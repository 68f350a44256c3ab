-- Character constants and string literals (C99 6.4.4.4, 6.4.5), by their bytes. A character is one byte that isn't a
-- backslash, or an escape; its value is at most 255.
use Rattle.std.specs.Prelude.{ℕ, zero, suc, ◌-◌, min, Bool, false, ◌&&◌, ◌==◌, nat_le, List, [], ◌∷◌, length, take}
use Rattle.std.specs.Prelude.{drop, map, slice_index, Option, Some, None, if◌then◌else◌}
use Rattle.std.specs.List.{list_all, prefix_len}
use Rattle.std.specs.Option.{is_some, unwrap_or}
use Rattle.ck_base.specs.Characters.{◌∈◌, is_octal_digit, is_hexadecimal_digit, backslash}
use Rattle.ck_base.specs.IntegerConstants.{value_of}

-- what is between the quotes
abbrev pub between_quotes : List ℕ → List ℕ
between_quotes text = take (length text - 2) (drop 1 text)

-- what makes a simple escape after a backslash
abbrev pub is_simple_escape : ℕ → Bool
is_simple_escape b = b ∈ "'\"?\\abfnrtv"

-- the value of a simple escape (5.2.2): a control character, or the character itself
abbrev pub simple_value : ℕ → ℕ
simple_value b =
    if b ∈ "a" then 7
    else if b ∈ "b" then 8
    else if b ∈ "t" then 9
    else if b ∈ "n" then 10
    else if b ∈ "v" then 11
    else if b ∈ "f" then 12
    else if b ∈ "r" then 13
    else b

-- one to three octal digits
abbrev pub is_octal_escape : List ℕ → Bool
is_octal_escape text = list_all is_octal_digit text && nat_le 1 (length text) && nat_le (length text) 3

-- an x, and at least one hexadecimal digit
abbrev pub is_hexadecimal_escape : List ℕ → Bool
is_hexadecimal_escape [] = false
is_hexadecimal_escape (b ∷ digits) = b ∈ "x" && list_all is_hexadecimal_digit digits && nat_le 1 (length digits)

abbrev pub if_byte : ℕ → Option ℕ
if_byte value = if nat_le value 255 then Some value else None

-- the value of a whole escape, without its backslash (6.4.4.4)
abbrev pub escape_value : List ℕ → Option ℕ
escape_value text =
    if is_octal_escape text then if_byte (value_of 8 text)
    else if is_hexadecimal_escape text then if_byte (value_of 16 (drop 1 text))
    else if length text == 1 && is_simple_escape (slice_index text 0) then Some (simple_value (slice_index text 0))
    else None

-- the value of a whole character
abbrev pub character_value : List ℕ → Option ℕ
character_value [] = None
character_value (b ∷ text) =
    if b == backslash then escape_value text
    else if length text == 0 then Some b
    else None

abbrev pub is_character : List ℕ → Bool
is_character text = is_some (character_value text)

-- how many bytes an escape takes after its backslash: up to three octal digits, an x and all hexadecimal digits, or one
abbrev pub escape_size : List ℕ → ℕ
escape_size text =
    if is_octal_digit (slice_index text 0) then min 3 (prefix_len is_octal_digit text)
    else if slice_index text 0 ∈ "x" then suc (prefix_len is_hexadecimal_digit (drop 1 text))
    else 1

-- how many bytes the first character of a text takes
abbrev pub character_size : List ℕ → ℕ
character_size text = if slice_index text 0 == backslash then suc (escape_size (drop 1 text)) else 1

-- the first characters of a text, at most so many
abbrev pub first_characters : ℕ → List ℕ → List (List ℕ)
first_characters zero text = []
first_characters (suc n) [] = []
first_characters (suc n) (b ∷ text) =
    take (character_size (b ∷ text)) (b ∷ text) ∷ first_characters n (drop (character_size (b ∷ text)) (b ∷ text))

-- a text cut into characters
abbrev pub characters : List ℕ → List (List ℕ)
characters text = first_characters (length text) text

abbrev pub are_characters : List ℕ → Bool
are_characters text = list_all is_character (characters text)

-- a character constant holds one character
unfoldable pub is_character_constant : List ℕ → Bool
is_character_constant text = is_character (between_quotes text)

-- a string literal holds characters
unfoldable pub is_string_literal : List ℕ → Bool
is_string_literal text = are_characters (between_quotes text)

abbrev pub value_of_character : List ℕ → ℕ
value_of_character text = unwrap_or (character_value text) 0

-- the value of a character constant, which is an `int`
abbrev pub character_constant_value : List ℕ → ℕ
character_constant_value text = value_of_character (between_quotes text)

-- the values of a string literal's characters, without the 0 at its end
abbrev pub string_values : List ℕ → List ℕ
string_values text = map value_of_character (characters (between_quotes text))
