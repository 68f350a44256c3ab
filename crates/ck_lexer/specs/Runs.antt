-- Runs of bytes of one class, as they are scanned by blocks.
use Rattle.std.specs.Prelude.{ℕ, Bool, not}
use Rattle.ck_base.specs.Characters.{◌∈◌}
use Rattle.ck_lexer.specs.Bytes.{is_identifier_byte, is_line_space}
use Rattle.ck_lexer.specs.declared.runs.Class.{Class}
use Rattle.ck_lexer.specs.declared.runs.Class.TheVariants.{Blank, Name, NotStar}

-- the byte is of the class
abbrev pub is_in : Class → ℕ → Bool
is_in Blank b = is_line_space b
is_in Name b = is_identifier_byte b
is_in NotStar b = not (b ∈ "*")

abbrev pub is_out : Class → ℕ → Bool
is_out class b = not (is_in class b)
