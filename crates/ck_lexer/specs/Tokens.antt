-- The tokens of a file's bytes (C99 6.4): their spans rise; before the first, between them and after the last there
-- are white
-- space, comments, markers and pragmas; and each is the longest token that starts at its first byte, where no comment
-- starts.
use Rattle.std.specs.Prelude.{◌≡◌, ◌≤◌, ◌<◌, ℕ, ◌+◌, ◌-◌, List, [], ◌∷◌, length}
use Rattle.ck_base.specs.declared.refusals.Refusal.{Refusal}
use Rattle.ck_base.specs.declared.refusals.Spot.TheVariants.{At}
use Rattle.ck_base.specs.declared.tokens.Token.{Token}
use Rattle.ck_lexer.specs.Cuts.{IsLexeme, IsTrivia}
use Rattle.ck_lexer.specs.Lexemes.{marked_size}
use Rattle.ck_lexer.specs.declared.lexemes.Lexeme.TheVariants as LexemeVariant

-- a token of the file of this number
pub record IsToken (file : ℕ) (bytes : List ℕ) (t : Token) : Type 0 where
  pub of_file : t.span.file ≡ file
  pub there : IsLexeme bytes t.span.start t.span.end (LexemeVariant.Token t.kind)

-- between two offsets the file consists of these tokens, and of trivia before, between and after them
abbrev pub AreTokensBetween : ℕ → List ℕ → ℕ → List Token → ℕ → Type 0
AreTokensBetween file bytes from [] to = IsTrivia bytes from to
AreTokensBetween file bytes from (t ∷ tokens) to =
    IsTrivia bytes from t.span.start × IsToken file bytes t × AreTokensBetween file bytes t.span.end tokens to

-- the tokens of the file's bytes
abbrev pub AreTokens : ℕ → List ℕ → List Token → Type 0
AreTokens file bytes tokens = AreTokensBetween file bytes 0 tokens (length bytes)

-- the file's bytes have tokens
abbrev pub HasTokens : ℕ → List ℕ → Type 0
HasTokens file bytes = (tokens : List Token) × AreTokens file bytes tokens

-- the spans of these tokens rise between two offsets, and none is empty
abbrev pub SpansRise : ℕ → List Token → ℕ → Type 0
SpansRise from [] to = from ≤ to
SpansRise from (t ∷ tokens) to =
    (from ≤ t.span.start) × (t.span.start < t.span.end) × SpansRise t.span.end tokens to

-- the first fault of the file's bytes: before it there are tokens and trivia alone
pub record IsFirstFault (file : ℕ) (bytes : List ℕ) (refusal : Refusal) : Type 0 where
  pub tokens : List Token
  pub start : ℕ
  pub end : ℕ
  pub before : AreTokensBetween file bytes 0 tokens start
  pub fault : IsLexeme bytes start end (LexemeVariant.Fault refusal.kind)
  pub at : refusal.at ≡ At (record { file = file; start = start; end = start + marked_size refusal.kind (end - start) })
