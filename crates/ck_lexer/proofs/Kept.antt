-- The tokens kept so far, and one lexeme more.
use Rattle.std.proofs.Common.{◌≡◌, ℕ, ◌+◌, ◌-◌, ◌≤◌, List, [], ◌∷◌, ◌++◌, length, Option, Some, None, inl, inr, refl}
use Rattle.std.proofs.Common.{sym, subst, arith}
use Rattle.ck_base.specs.declared.refusals.Refusal.{Refusal}
use Rattle.ck_base.specs.declared.refusals.Spot.TheVariants.{At}
use Rattle.ck_base.specs.declared.refusals.Unsupported.{Unsupported}
use Rattle.ck_base.specs.declared.tokens.Token.{Token}
use Rattle.ck_lexer.specs.Cuts.{IsLexeme, AreTrivia}
use Rattle.ck_lexer.specs.Lexemes.{marked_size}
use Rattle.ck_lexer.specs.Tokens.{IsFirstFault, IsToken, AreTokensBetween, AreTokens}
use Rattle.ck_lexer.specs.Mapping.{IsAtOrAfterFeed}
use Rattle.ck_lexer.specs.Scanning.{IsReadTo}
use Rattle.ck_lexer.specs.declared.lexemes.Lexeme.TheVariants.{Trivia, Fault}

trivia-more : (bytes : List ℕ) (from mid to : ℕ) (ends : List ℕ) → AreTrivia bytes from ends mid
    → IsLexeme bytes mid to Trivia → AreTrivia bytes from (ends ++ to ∷ []) to
trivia-more bytes from mid to [] here trivia = let P : ℕ → Type 0 = λ x. IsLexeme bytes x to Trivia in
    (subst P (sym here) trivia, refl)
trivia-more bytes from mid to (end ∷ ends) all_trivia trivia =
    (all_trivia.0, trivia-more bytes end mid to ends all_trivia.1 trivia)

pub tokens-trivia : (file : ℕ) (bytes : List ℕ) (from mid to : ℕ) (tokens : List Token)
    → AreTokensBetween file bytes from tokens mid → IsLexeme bytes mid to Trivia
    → AreTokensBetween file bytes from tokens to
tokens-trivia file bytes from mid to [] trivia more =
    (trivia.0 ++ to ∷ [], trivia-more bytes from mid to trivia.0 trivia.1 more)
tokens-trivia file bytes from mid to (t ∷ tokens) cut more =
    (cut.0, cut.1, tokens-trivia file bytes t.span.end mid to tokens cut.2 more)

pub tokens-push : (file : ℕ) (bytes : List ℕ) (from : ℕ) (tokens : List Token) (t : Token)
    → AreTokensBetween file bytes from tokens t.span.start → IsToken file bytes t
    → AreTokensBetween file bytes from (tokens ++ t ∷ []) t.span.end
tokens-push file bytes from [] t trivia is = (trivia, is, ([], refl))
tokens-push file bytes from (x ∷ tokens) t cut is = (cut.0, cut.1, tokens-push file bytes x.span.end tokens t cut.2 is)

pub tokens-end : (file : ℕ) (bytes : List ℕ) (at : ℕ) (tokens : List Token) → AreTokensBetween file bytes 0 tokens at
    → at ≤ length bytes → length bytes ≤ at → AreTokens file bytes tokens
tokens-end file bytes at tokens cut within end = let e : at ≡ length bytes = omega arith in
    subst (AreTokensBetween file bytes 0 tokens) e cut

pub first-fault : (file : ℕ) (bytes : List ℕ) (at size : ℕ) (kind : Unsupported) (tokens : List Token)
    (refusal : Refusal) → AreTokensBetween file bytes 0 tokens at → IsLexeme bytes at (at + size) (Fault kind)
    → refusal ≡ record { kind = kind; at = At (record { file = file; start = at; end = at + marked_size kind size }) }
    → IsFirstFault file bytes refusal
first-fault file bytes at size kind tokens refusal cut fault is =
    let less : at + size - at ≡ size = omega arith in
    rw is (record { tokens = tokens; start = at; end = at + size; before = cut; fault = fault; at = rw less refl })

-- a line feed after what was read
pub read-feed : (file : ℕ) (bytes : List ℕ) (tokens : List Token) (fault : Option Refusal) (end at : ℕ)
    → IsReadTo file bytes tokens fault end → IsAtOrAfterFeed bytes end at → IsReadTo file bytes tokens fault at
read-feed file bytes tokens None end at read (inl here) = subst (AreTokensBetween file bytes 0 tokens) (sym here) read
read-feed file bytes tokens None end at read (inr feed) = tokens-trivia file bytes 0 end at tokens read feed
read-feed file bytes tokens (Some refusal) end at read next = read
