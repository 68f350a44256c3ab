-- What a token is to the reader, by its text. proofs/LexemeLemmas.antt joins it with
-- FileForm.
use Rattle.std.specs.Prelude.{ℕ, List, codes, find, if◌then◌else◌}
use Rattle.std.specs.Option.{option_map_or}
use Rattle.std.specs.Str.{bytes_eq}
use Rattle.ck_cli.specs.declared.lexemes.Lexeme.{Lexeme}
use Rattle.ck_cli.specs.declared.lexemes.Lexeme.TheVariants.{Void, Int, Main, Kernel, Open, Close, LeftBrace}
use Rattle.ck_cli.specs.declared.lexemes.Lexeme.TheVariants.{RightBrace, Semicolon, Other}
use Rattle.ck_cli.specs.Calls.{name_of, every_call}

abbrev pub lexeme_of : List ℕ → Lexeme
lexeme_of text =
    if bytes_eq text (codes "void") then Void
    else if bytes_eq text (codes "int") then Int
    else if bytes_eq text (codes "main") then Main
    else if bytes_eq text (codes "(") then Open
    else if bytes_eq text (codes ")") then Close
    else if bytes_eq text (codes "{") then LeftBrace
    else if bytes_eq text (codes "}") then RightBrace
    else if bytes_eq text (codes ";") then Semicolon
    else option_map_or Kernel (find (λ call. bytes_eq (name_of call) text) every_call) Other
