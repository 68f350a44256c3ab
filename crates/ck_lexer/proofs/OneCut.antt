-- No file has two lists of tokens, two first faults, or both.
use Rattle.std.proofs.Common.{◌≡◌, ℕ, ◌+◌, ◌-◌, ◌<◌, List, [], ◌∷◌, length, drop, length-drop, refl, sym, ap, ◌∙◌}
use Rattle.std.proofs.Common.{subst, arith}
use Rattle.ck_base.specs.declared.refusals.Refusal.{Refusal}
use Rattle.ck_base.specs.declared.refusals.Spot.{Spot}
use Rattle.ck_base.specs.declared.refusals.Spot.TheVariants.{At}
use Rattle.ck_base.specs.declared.refusals.Unsupported.{Unsupported}
use Rattle.ck_base.specs.declared.tokens.Token.{Token}
use Rattle.ck_base.specs.declared.tokens.TokenKind.{TokenKind}
use Rattle.ck_lexer.specs.Cuts.{AreTrivia, IsTrivia, IsLexeme}
use Rattle.ck_lexer.specs.Lexemes.{marked_size}
use Rattle.ck_lexer.specs.Tokens.{AreTokens, AreTokensBetween, IsFirstFault, IsToken}
use Rattle.ck_lexer.specs.declared.lexemes.Lexeme.{Lexeme}
use Rattle.ck_lexer.specs.declared.lexemes.Lexeme.TheVariants as LexemeVariant
use Rattle.ck_lexer.proofs.OneLexeme.{one_lexeme}

abbrev NoTriviaAt : List ℕ → ℕ → Type 0
NoTriviaAt bytes at = (end : ℕ) → IsLexeme bytes at end LexemeVariant.Trivia → ⊥

abbrev NoTokenAt : List ℕ → ℕ → Type 0
NoTokenAt bytes at = (end : ℕ) (kind : TokenKind) → IsLexeme bytes at end (LexemeVariant.Token kind) → ⊥

no_trivia_at_token : (bytes : List ℕ) (at end : ℕ) (kind : TokenKind)
    → IsLexeme bytes at end (LexemeVariant.Token kind) → NoTriviaAt bytes at
no_trivia_at_token bytes at end kind token other trivia = let same = one_lexeme bytes at end other
    (LexemeVariant.Token kind) LexemeVariant.Trivia token trivia in absurd (cc)

no_trivia_at_fault : (bytes : List ℕ) (at end : ℕ) (kind : Unsupported)
    → IsLexeme bytes at end (LexemeVariant.Fault kind) → NoTriviaAt bytes at
no_trivia_at_fault bytes at end kind fault other trivia = let same = one_lexeme bytes at end other
    (LexemeVariant.Fault kind) LexemeVariant.Trivia fault trivia in absurd (cc)

no_token_at_fault : (bytes : List ℕ) (at end : ℕ) (kind : Unsupported)
    → IsLexeme bytes at end (LexemeVariant.Fault kind) → NoTokenAt bytes at
no_token_at_fault bytes at end kind fault other t token = let same = one_lexeme bytes at end other
    (LexemeVariant.Fault kind) (LexemeVariant.Token t) fault token in absurd (cc)

pub nothing_at_end : (bytes : List ℕ) (end : ℕ) (lexeme : Lexeme) → IsLexeme bytes (length bytes) end lexeme → ⊥
nothing_at_end bytes end lexeme found = let some : 0 < length (drop (length bytes) bytes) = found.is.0 in
    omega (arith, some, length-drop (length bytes) bytes)

-- two runs of trivia from one offset, of which neither can go on, end at one offset
one_trivia_end : (bytes : List ℕ) (from a b : ℕ) (xs ys : List ℕ) → AreTrivia bytes from xs a
    → AreTrivia bytes from ys b → NoTriviaAt bytes a → NoTriviaAt bytes b → a ≡ b
one_trivia_end bytes from a b [] [] p q no_a no_b = sym p ∙ q
one_trivia_end bytes from a b [] (y ∷ ys) p q no_a no_b = absurd
    (no_a y (subst (λ at. IsLexeme bytes at y LexemeVariant.Trivia) p q.0))
one_trivia_end bytes from a b (x ∷ xs) [] p q no_a no_b = absurd
    (no_b x (subst (λ at. IsLexeme bytes at x LexemeVariant.Trivia) q p.0))
one_trivia_end bytes from a b (x ∷ xs) (y ∷ ys) p q no_a no_b =
    let same : x ≡ y = (one_lexeme bytes from x y LexemeVariant.Trivia LexemeVariant.Trivia p.0 q.0).0 in
    one_trivia_end bytes x a b xs ys p.1 (subst (λ at. AreTrivia bytes at ys b) (sym same) q.1) no_a no_b

one_trivia : (bytes : List ℕ) (from a b : ℕ) → IsTrivia bytes from a → IsTrivia bytes from b → NoTriviaAt bytes a
    → NoTriviaAt bytes b → a ≡ b
one_trivia bytes from a b p q no_a no_b = one_trivia_end bytes from a b p.0 q.0 p.1 q.1 no_a no_b

abbrev token_with : TokenKind → ℕ → ℕ → ℕ → Token
token_with kind file start end = record { kind = kind; span = record { file = file; start = start; end = end } }

same_tokens : (t u : Token) → t.kind ≡ u.kind → t.span.file ≡ u.span.file → t.span.start ≡ u.span.start
    → t.span.end ≡ u.span.end → t ≡ u
same_tokens t u kind file start end =
    ap (λ x. token_with x t.span.file t.span.start t.span.end) kind
    ∙ (ap (λ x. token_with u.kind x t.span.start t.span.end) file
    ∙ (ap (λ x. token_with u.kind u.span.file x t.span.end) start
    ∙ ap (λ x. token_with u.kind u.span.file u.span.start x) end))

same_kind : (j k : TokenKind) → LexemeVariant.Token j ≡ LexemeVariant.Token k → j ≡ k
same_kind j k e = cc

-- two tokens after one offset are one
one_token : (file : ℕ) (bytes : List ℕ) (from : ℕ) (t u : Token) → IsTrivia bytes from t.span.start
    → IsToken file bytes t → IsTrivia bytes from u.span.start → IsToken file bytes u → t ≡ u
one_token file bytes from t u p a q b =
    let start : t.span.start ≡ u.span.start = one_trivia bytes from t.span.start u.span.start p q
    (no_trivia_at_token bytes t.span.start t.span.end t.kind a.there)
    (no_trivia_at_token bytes u.span.start u.span.end u.kind b.there) in
    let same = one_lexeme bytes u.span.start t.span.end u.span.end (LexemeVariant.Token t.kind)
    (LexemeVariant.Token u.kind) (subst (λ at. IsLexeme bytes at t.span.end
    (LexemeVariant.Token t.kind)) start a.there) b.there in
    same_tokens t u (same_kind t.kind u.kind same.1) (a.of_file ∙ sym b.of_file) start same.0

abbrev Stops : List ℕ → ℕ → Type 0
Stops bytes at = NoTriviaAt bytes at × NoTokenAt bytes at

no_more : (file : ℕ) (bytes : List ℕ) (from a : ℕ) (t : Token) → IsTrivia bytes from a → Stops bytes a
    → IsTrivia bytes from t.span.start → IsToken file bytes t → ⊥
no_more file bytes from a t p stops q b =
    let start : t.span.start ≡ a = one_trivia bytes from t.span.start a q p
    (no_trivia_at_token bytes t.span.start t.span.end t.kind b.there) stops.0 in
    stops.1 t.span.end t.kind (subst (λ at. IsLexeme bytes at t.span.end (LexemeVariant.Token t.kind)) start b.there)

-- two runs of tokens from one offset, of which neither can go on, are one and end at one offset
one_run : (file : ℕ) (bytes : List ℕ) (from a b : ℕ) (ts us : List Token) → AreTokensBetween file bytes from ts a
    → AreTokensBetween file bytes from us b → Stops bytes a → Stops bytes b → (ts ≡ us) × (a ≡ b)
one_run file bytes from a b [] [] p q stops_a stops_b = (refl, one_trivia bytes from a b p q stops_a.0 stops_b.0)
one_run file bytes from a b [] (u ∷ us) p q stops_a stops_b = absurd (no_more file bytes from a u p stops_a q.0 q.1)
one_run file bytes from a b (t ∷ ts) [] p q stops_a stops_b = absurd (no_more file bytes from b t q stops_b p.0 p.1)
one_run file bytes from a b (t ∷ ts) (u ∷ us) p q stops_a stops_b =
    let same : t ≡ u = one_token file bytes from t u p.0 p.1 q.0 q.1 in
    let rest = one_run file bytes t.span.end a b ts us p.2 (subst (λ x. AreTokensBetween file bytes x.span.end us b)
    (sym same) q.2) stops_a stops_b in
    (ap (λ x. x ∷ ts) same ∙ ap (λ xs. u ∷ xs) rest.0, rest.1)

stops_at_end : (bytes : List ℕ) → Stops bytes (length bytes)
stops_at_end bytes = (
  λ end trivia. nothing_at_end bytes end LexemeVariant.Trivia trivia,
  λ end kind token. nothing_at_end bytes end
      (LexemeVariant.Token kind) token,
)

stops_at_fault : (bytes : List ℕ) (at end : ℕ) (kind : Unsupported) → IsLexeme bytes at end (LexemeVariant.Fault kind)
    → Stops bytes at
stops_at_fault bytes at end kind fault =
    (no_trivia_at_fault bytes at end kind fault, no_token_at_fault bytes at end kind fault)

pub one_list : (file : ℕ) (bytes : List ℕ) (ts us : List Token) → AreTokens file bytes ts → AreTokens file bytes us
    → ts ≡ us
one_list file bytes ts us p q = (one_run file bytes 0 (length bytes) (length bytes) ts us p q (stops_at_end bytes)
    (stops_at_end bytes)).0

pub tokens_or_fault : (file : ℕ) (bytes : List ℕ) (ts : List Token) (r : Refusal) → AreTokens file bytes ts
    → IsFirstFault file bytes r → ⊥
tokens_or_fault file bytes ts r p first =
    let here : length bytes ≡ first.start = (one_run file bytes 0
    (length bytes) first.start ts first.tokens p first.before (stops_at_end bytes)
    (stops_at_fault bytes first.start first.end r.kind first.fault)).1 in
    nothing_at_end bytes first.end (LexemeVariant.Fault r.kind)
    (subst (λ at. IsLexeme bytes at first.end (LexemeVariant.Fault r.kind)) (sym here) first.fault)

abbrev refusal_with : Unsupported → Spot → Refusal
refusal_with kind at = record { kind = kind; at = at }

same_refusals : (r s : Refusal) → r.kind ≡ s.kind → r.at ≡ s.at → r ≡ s
same_refusals r s kind at = ap (λ x. refusal_with x r.at) kind ∙ ap (λ x. refusal_with s.kind x) at

same_fault : (j k : Unsupported) → LexemeVariant.Fault j ≡ LexemeVariant.Fault k → j ≡ k
same_fault j k e = cc

-- what a fault marks
abbrev marked : ℕ → Unsupported → ℕ → ℕ → Spot
marked file kind start end = At (record { file = file; start = start; end = start + marked_size kind (end - start) })

same_marked : (file : ℕ) (j k : Unsupported) (a b c d : ℕ) → j ≡ k → a ≡ b → c ≡ d
    → marked file j a c ≡ marked file k b d
same_marked file j k a b c d kind start end = ap (λ x. marked file x a c) kind
    ∙ (ap (λ x. marked file k x c) start ∙ ap (λ x. marked file k b x) end)

pub one_fault : (file : ℕ) (bytes : List ℕ) (r s : Refusal) → IsFirstFault file bytes r → IsFirstFault file bytes s
    → r ≡ s
one_fault file bytes r s p q =
    let start : p.start ≡ q.start = (one_run file bytes 0 p.start q.start p.tokens q.tokens p.before q.before
    (stops_at_fault bytes p.start p.end r.kind p.fault) (stops_at_fault bytes q.start q.end s.kind q.fault)).1 in
    let same = one_lexeme bytes q.start p.end q.end (LexemeVariant.Fault r.kind) (LexemeVariant.Fault s.kind)
    (subst (λ at. IsLexeme bytes at p.end (LexemeVariant.Fault r.kind)) start p.fault) q.fault in
    let kind : r.kind ≡ s.kind = same_fault r.kind s.kind same.1 in
    same_refusals r s kind (p.at ∙ (same_marked file r.kind s.kind p.start q.start p.end q.end kind start same.0
    ∙ sym q.at))
