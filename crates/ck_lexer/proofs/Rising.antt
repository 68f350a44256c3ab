-- The spans of a file's tokens rise.
use Rattle.std.proofs.Common.{ℕ, ◌<◌, ◌≤◌, List, [], ◌∷◌, length, arith}
use Rattle.std.specs.Prelude.{All}
use Rattle.std.proofs.lemmas.List.Elements.{All-nil, All-cons}
use Rattle.ck_base.specs.declared.tokens.Token.{Token}
use Rattle.ck_lexer.specs.Cuts.{AreTrivia}
use Rattle.ck_lexer.specs.Tokens.{AreTokens, AreTokensBetween, SpansRise}
use Rattle.ck_lexer.specs.declared.lexemes.Lexeme.TheVariants as LexemeVariant
use Rattle.ck_lexer.proofs.Sizes.{IsLexeme-lies}

trivia-rise : (bytes : List ℕ) (from to : ℕ) (ends : List ℕ) → AreTrivia bytes from ends to → from ≤ to
trivia-rise bytes from to [] here = omega arith
trivia-rise bytes from to (end ∷ ends) all_trivia = omega (
  arith,
  (IsLexeme-lies bytes from end LexemeVariant.Trivia all_trivia.0).rises,
  trivia-rise bytes end to ends all_trivia.1,
)

between-rise : (file : ℕ) (bytes : List ℕ) (from to : ℕ) (ts : List Token) → AreTokensBetween file bytes from ts to
    → SpansRise from ts to
between-rise file bytes from to [] trivia = trivia-rise bytes from to trivia.0 trivia.1
between-rise file bytes from to (t ∷ ts) cut = (
  trivia-rise bytes from t.span.start cut.0.0 cut.0.1,
  (IsLexeme-lies bytes t.span.start t.span.end (LexemeVariant.Token t.kind) cut.1.there).rises,
  between-rise file bytes t.span.end to ts cut.2,
)

pub tokens-rise : (file : ℕ) (bytes : List ℕ) (ts : List Token) → AreTokens file bytes ts
    → SpansRise 0 ts (length bytes)
tokens-rise file bytes ts are = between-rise file bytes 0 (length bytes) ts are

-- so each lies within
abbrev pub LiesBelow : ℕ → Token → Type 0
LiesBelow to t = (t.span.start < t.span.end) × (t.span.end ≤ to)

rise-le : (from to : ℕ) (ts : List Token) → SpansRise from ts to → from ≤ to
rise-le from to [] rise = rise
rise-le from to (t ∷ ts) rise = omega (arith, rise.0, rise.1, rise-le t.span.end to ts rise.2)

rise-below : (from to : ℕ) (ts : List Token) → SpansRise from ts to → All (LiesBelow to) ts
rise-below from to [] rise = All-nil (LiesBelow to)
rise-below from to (t ∷ ts) rise = All-cons (LiesBelow to) t ts (rise.1, rise-le t.span.end to ts rise.2)
    (rise-below t.span.end to ts rise.2)

pub tokens-below : (file : ℕ) (bytes : List ℕ) (ts : List Token) → AreTokens file bytes ts
    → All (LiesBelow (length bytes)) ts
tokens-below file bytes ts are = rise-below 0 (length bytes) ts (tokens-rise file bytes ts are)
