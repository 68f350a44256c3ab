-- Preprocessing tokens (C99 6.4): what a token can be by its bytes alone. There are no header names in preprocessed
-- text,
-- and neither `#`, `##` nor a digraph is a punctuator here (docs/TOKENS.md, "Tokens").
use Rattle.std.specs.Prelude.{ℕ, Bool, true, false, ◌||◌, ◌&&◌, not, ◌==◌, List, [], ◌∷◌, codes, if◌then◌else◌}
use Rattle.std.specs.List.{list_all, list_any}
use Rattle.std.specs.Str.{bytes_eq}
use Rattle.ck_base.specs.Characters.{◌∈◌, is_digit, backslash}
use Rattle.ck_lexer.specs.Bytes.{is_nondigit, is_identifier_byte, is_line_feed, quote, double_quote}

-- an identifier or a keyword: a letter or an underscore, then letters, digits and underscores (6.4.2.1)
abbrev pub is_identifier : List ℕ → Bool
is_identifier [] = false
is_identifier (b ∷ text) = is_nondigit b && list_all is_identifier_byte text

abbrev pub is_exponent : ℕ → Bool
is_exponent b = b ∈ "eEpP"

abbrev pub is_sign : ℕ → Bool
is_sign b = b ∈ "+-"

-- what may follow a byte of a preprocessing number: an identifier's byte, a point, or a sign right after e, E, p or P
abbrev pub goes_on : ℕ → ℕ → Bool
goes_on last b = is_identifier_byte b || b ∈ "." || (is_sign b && is_exponent last)

abbrev pub go_on_after : ℕ → List ℕ → Bool
go_on_after last [] = true
go_on_after last (b ∷ text) = goes_on last b && go_on_after b text

-- a digit, or a point and a digit, and then what may follow (6.4.8)
abbrev pub begins_number : List ℕ → Bool
begins_number [] = false
begins_number (a ∷ []) = is_digit a
begins_number (a ∷ b ∷ text) = is_digit a || (a ∈ "." && is_digit b)

abbrev pub is_number : List ℕ → Bool
is_number [] = false
is_number (b ∷ text) = begins_number (b ∷ text) && go_on_after b text

-- the rest of a literal after its first quote: it ends with that quote and has none before; a backslash takes the next
-- byte along, and no byte is a line feed
abbrev pub is_closed : ℕ → List ℕ → Bool
is_closed mark [] = false
is_closed mark (b ∷ []) = b == mark
is_closed mark (b ∷ c ∷ text) =
    if b == backslash then not (is_line_feed c) && is_closed mark text
    else not (b == mark) && not (is_line_feed b) && is_closed mark (c ∷ text)

abbrev pub is_quoted : ℕ → List ℕ → Bool
is_quoted mark [] = false
is_quoted mark (b ∷ text) = b == mark && is_closed mark text

-- a literal between its quotes, whatever its characters are (6.4.4.4, 6.4.5)
abbrev pub is_literal : List ℕ → Bool
is_literal text = is_quoted quote text || is_quoted double_quote text

-- the punctuators (6.4.6)
abbrev pub punctuators : List (List ℕ)
punctuators =
    codes "[" ∷ codes "]" ∷ codes "(" ∷ codes ")" ∷ codes "{" ∷ codes "}" ∷ codes "." ∷ codes "->"
    ∷ codes "++" ∷ codes "--" ∷ codes "&" ∷ codes "*" ∷ codes "+" ∷ codes "-" ∷ codes "~" ∷ codes "!"
    ∷ codes "/" ∷ codes "%" ∷ codes "<<" ∷ codes ">>" ∷ codes "<" ∷ codes ">" ∷ codes "<=" ∷ codes ">="
    ∷ codes "==" ∷ codes "!=" ∷ codes "^" ∷ codes "|" ∷ codes "&&" ∷ codes "||"
    ∷ codes "?" ∷ codes ":" ∷ codes ";" ∷ codes "..."
    ∷ codes "=" ∷ codes "*=" ∷ codes "/=" ∷ codes "%=" ∷ codes "+=" ∷ codes "-=" ∷ codes "<<=" ∷ codes ">>="
    ∷ codes "&=" ∷ codes "^=" ∷ codes "|=" ∷ codes "," ∷ []

unfoldable pub is_punctuator : List ℕ → Bool
is_punctuator text = list_any (bytes_eq text) punctuators

-- a preprocessing token
unfoldable pub is_preprocessing_token : List ℕ → Bool
is_preprocessing_token text = is_identifier text || is_number text || is_literal text || is_punctuator text
