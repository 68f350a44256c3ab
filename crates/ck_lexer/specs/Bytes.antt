-- The classes of bytes that the lexer knows (C99 5.2.1, 6.4; docs/TOKENS.md, "Bytes"), and how many bytes a file has.
use Rattle.std.specs.Prelude.{ℕ, Bool, ◌||◌, ◌&&◌, not, ◌==◌}
use Rattle.ck_base.specs.Characters.{◌∈◌, ◌∈range◌, is_digit}

-- the most bytes that a file has: 1 MiB
abbrev pub most_bytes : ℕ
most_bytes = 1048576

abbrev pub is_line_feed : ℕ → Bool
is_line_feed b = b ∈ "\n"

abbrev pub is_no_line_feed : ℕ → Bool
is_no_line_feed b = not (is_line_feed b)

-- a space or a tab
abbrev pub is_blank : ℕ → Bool
is_blank b = b ∈ " \t"

abbrev pub is_no_blank : ℕ → Bool
is_no_blank b = not (is_blank b)

-- white space (6.4): a space; or tab, line feed, vertical tab, form feed or carriage return, which have codes in a row
abbrev pub is_white_space : ℕ → Bool
is_white_space b = b ∈ " " || b ∈range "\t\r"

-- white space within a line
abbrev pub is_line_space : ℕ → Bool
is_line_space b = is_white_space b && is_no_line_feed b

-- an ASCII letter or the underscore
abbrev pub is_nondigit : ℕ → Bool
is_nondigit b = b ∈range "az" || b ∈range "AZ" || b ∈ "_"

-- a byte of an identifier after the first
abbrev pub is_identifier_byte : ℕ → Bool
is_identifier_byte b = is_nondigit b || is_digit b

-- '
abbrev pub quote : ℕ
quote = 39

-- "
abbrev pub double_quote : ℕ
double_quote = 34

-- a quote of either kind
abbrev pub is_quote : ℕ → Bool
is_quote b = b == double_quote || b == quote
