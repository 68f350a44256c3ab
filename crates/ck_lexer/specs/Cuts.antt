-- A file cut into lexemes, each after the other.
use Rattle.std.specs.Prelude.{◌≡◌, ℕ, ◌+◌, Bool, true, List, [], ◌∷◌, take, drop, reverse}
use Rattle.std.specs.List.{find}
use Rattle.std.specs.Option.{option_map_or}
use Rattle.ck_lexer.specs.Bytes.{is_line_feed, is_no_blank}
use Rattle.ck_lexer.specs.Lexemes.{IsFirstLexeme}
use Rattle.ck_lexer.specs.declared.lexemes.Lexeme.{Lexeme}
use Rattle.ck_lexer.specs.declared.lexemes.Lexeme.TheVariants.{Trivia}

-- After these bytes the line is blank so far: the last of them that is no blank is a line feed, or there is none.
abbrev pub is_clear : List ℕ → Bool
is_clear before = option_map_or is_line_feed (find is_no_blank (reverse before)) true

-- the bytes from `start` up to `end` are this lexeme
pub record IsLexeme (bytes : List ℕ) (start end : ℕ) (lexeme : Lexeme) : Type 0 where
  pub size : ℕ
  pub ends : end ≡ start + size
  pub is : IsFirstLexeme (is_clear (take start bytes)) (drop start bytes) size lexeme

-- the bytes between two offsets are white space, comments, markers and pragmas, which end at these offsets
abbrev pub AreTrivia : List ℕ → ℕ → List ℕ → ℕ → Type 0
AreTrivia bytes from [] to = from ≡ to
AreTrivia bytes from (end ∷ ends) to = IsLexeme bytes from end Trivia × AreTrivia bytes end ends to

-- the bytes between two offsets are white space, comments, markers and pragmas
abbrev pub IsTrivia : List ℕ → ℕ → ℕ → Type 0
IsTrivia bytes from to = (ends : List ℕ) × AreTrivia bytes from ends to

-- a lexeme, and the offset where it ends
pub record Ended : Type 0 where
  pub lexeme : Lexeme
  pub end : ℕ

-- the bytes between two offsets are these lexemes, faults among them
abbrev pub AreLexemes : List ℕ → ℕ → List Ended → ℕ → Type 0
AreLexemes bytes from [] to = from ≡ to
AreLexemes bytes from (l ∷ ls) to = IsLexeme bytes from l.end l.lexeme × AreLexemes bytes l.end ls to

-- a lexeme begins at this offset, or the file ends there
abbrev pub IsReached : List ℕ → ℕ → Type 0
IsReached bytes at = (lexemes : List Ended) × AreLexemes bytes 0 lexemes at
