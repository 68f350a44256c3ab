-- Worked bytes, computed on the definitions.
use Rattle.std.proofs.Common.{◌≡◌, true, false, refl}
use Rattle.std.specs.Prelude.{codes}
use Rattle.ck_base.specs.declared.refusals.Unsupported.TheVariants.{U3, U4, U5}
use Rattle.ck_base.specs.declared.tokens.TokenKind.TheVariants.{Word, Key, Number, Char, Text}
use Rattle.ck_base.specs.IntegerConstants.{is_integer_constant}
use Rattle.ck_base.specs.CharacterConstants.{is_character_constant, is_string_literal}
use Rattle.ck_lexer.specs.FloatingConstants.{is_floating}
use Rattle.ck_lexer.specs.Keywords.{is_keyword, is_reserved_word}
use Rattle.ck_lexer.specs.Markers.{AreFlags, is_pragma}
use Rattle.ck_lexer.proofs.FlagLemmas.{are_flags-complete, are_flags-sound}
use Rattle.ck_lexer.specs.Lexemes.{lexeme_of}
use Rattle.ck_lexer.specs.Preprocessing.{is_preprocessing_token, is_punctuator}
use Rattle.ck_lexer.specs.declared.lexemes.Lexeme.TheVariants.{Token, Fault}

-- `a+++b` is a, ++, +, b
longest_mark : is_preprocessing_token (codes "++") ≡ true
unfolding is_preprocessing_token is_punctuator
longest_mark = refl

three_pluses : is_preprocessing_token (codes "+++") ≡ false
unfolding is_preprocessing_token is_punctuator
three_pluses = refl

-- two points are no token, three are
two_points : is_preprocessing_token (codes "..") ≡ false
unfolding is_preprocessing_token is_punctuator
two_points = refl

three_points : is_preprocessing_token (codes "...") ≡ true
unfolding is_preprocessing_token is_punctuator
three_points = refl

floating : lexeme_of (codes "1.5") ≡ Fault U4
unfolding lexeme_of is_integer_constant is_floating
floating = refl

no_octal : lexeme_of (codes "08") ≡ Fault U3
unfolding lexeme_of is_integer_constant is_floating
no_octal = refl

binary_exponent : lexeme_of (codes "0x1p3") ≡ Fault U4
unfolding lexeme_of is_integer_constant is_floating
binary_exponent = refl

-- a hexadecimal digit e with a sign after it makes no integer and no floating constant
signed_e : lexeme_of (codes "0x1e+5") ≡ Fault U3
unfolding lexeme_of is_integer_constant is_floating
signed_e = refl

suffixed : lexeme_of (codes "18446744073709551615uLL") ≡ Token Number
unfolding lexeme_of is_integer_constant is_floating
suffixed = refl

too_large : lexeme_of (codes "9223372036854775808") ≡ Fault U3
unfolding lexeme_of is_integer_constant is_floating
too_large = refl

hexadecimal : lexeme_of (codes "0x8000000000000000L") ≡ Token Number
unfolding lexeme_of is_integer_constant is_floating
hexadecimal = refl

zero : lexeme_of (codes "0") ≡ Token Number
unfolding lexeme_of is_integer_constant is_floating
zero = refl

no_digits : lexeme_of (codes "0x") ≡ Fault U3
unfolding lexeme_of is_integer_constant is_floating
no_digits = refl

mixed_suffix : lexeme_of (codes "1lL") ≡ Fault U3
unfolding lexeme_of is_integer_constant is_floating
mixed_suffix = refl

-- character constants: one byte, or one escape up to 255
two_characters : lexeme_of (codes "'ab'") ≡ Fault U3
unfolding lexeme_of is_character_constant
two_characters = refl

no_character : lexeme_of (codes "''") ≡ Fault U3
unfolding lexeme_of is_character_constant
no_character = refl

octal : lexeme_of (codes "'\\377'") ≡ Token Char
unfolding lexeme_of is_character_constant
octal = refl

octal_too_large : lexeme_of (codes "'\\400'") ≡ Fault U3
unfolding lexeme_of is_character_constant
octal_too_large = refl

hexadecimal_escape : lexeme_of (codes "'\\x0FF'") ≡ Token Char
unfolding lexeme_of is_character_constant
hexadecimal_escape = refl

unknown_escape : lexeme_of (codes "'\\q'") ≡ Fault U3
unfolding lexeme_of is_character_constant
unknown_escape = refl

escaped_quote : lexeme_of (codes "'\\''") ≡ Token Char
unfolding lexeme_of is_character_constant
escaped_quote = refl

-- string literals: `"\1234"` is an octal escape and a 4
strings : lexeme_of (codes "\"\\1234\\x41 '\\n\"") ≡ Token Text
unfolding lexeme_of is_string_literal
strings = refl

empty_string : lexeme_of (codes "\"\"") ≡ Token Text
unfolding lexeme_of is_string_literal
empty_string = refl

bad_string : lexeme_of (codes "\"\\400\"") ≡ Fault U3
unfolding lexeme_of is_string_literal
bad_string = refl

-- a quote in the middle closes a literal
no_literal : is_preprocessing_token (codes "\"a\"b\"") ≡ false
unfolding is_preprocessing_token is_punctuator
no_literal = refl

key : lexeme_of (codes "while") ≡ Token Key
unfolding lexeme_of is_keyword is_reserved_word
key = refl

word : lexeme_of (codes "while_") ≡ Token Word
unfolding lexeme_of is_keyword is_reserved_word
word = refl

refused : lexeme_of (codes "__attribute__") ≡ Fault U5
unfolding lexeme_of is_keyword is_reserved_word
refused = refl

pragma : is_pragma (codes "#pragmafoo") ≡ true
pragma = refl

no_pragma : is_pragma (codes "# prag") ≡ false
no_pragma = refl

flags : AreFlags (codes " 1  3 4")
flags = are_flags-sound (codes " 1  3 4") refl

no_flags : AreFlags (codes " 1 3 ") → ⊥
no_flags h = let e : false ≡ true = are_flags-complete (codes " 1 3 ") h in cc

joined_flags : AreFlags (codes " 13") → ⊥
joined_flags h = let e : false ≡ true = are_flags-complete (codes " 13") h in cc
