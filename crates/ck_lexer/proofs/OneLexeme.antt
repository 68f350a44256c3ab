-- At an offset of a file there is at most one lexeme.
use Rattle.std.proofs.Common.{◌≡◌, ℕ, ◌+◌, ◌<◌, ◌≤◌, true, false, List, take, drop, refl, sym, ap, ◌∙◌, arith}
use Rattle.std.proofs.lemmas.Bool.{both_ways}
use Rattle.ck_lexer.specs.Cuts.{IsLexeme, is_clear}
use Rattle.ck_lexer.specs.Lexemes.{Beginning, BeginsNoToken, IsComment, IsDirective, IsLongestToken, IsTokenOrFault}
use Rattle.ck_lexer.specs.Lexemes.{IsLexemeOf, beginning_of, bad, closed, closes_at, marker, open_, lexeme_of, pragma}
use Rattle.ck_lexer.specs.Lexemes.{token, unclosed}
use Rattle.ck_lexer.specs.Lexemes.{WhiteSpace, Block, Line, Hash, Other}
use Rattle.ck_lexer.specs.Preprocessing.{is_preprocessing_token}
use Rattle.ck_lexer.specs.declared.lexemes.Lexeme.{Lexeme}

abbrev pub Same : ℕ → ℕ → Lexeme → Lexeme → Type 0
Same m n p q = (m ≡ n) × (p ≡ q)

no_longer : (rest : List ℕ) (m n : ℕ) → IsLongestToken rest m → IsLongestToken rest n → m < n → ⊥
no_longer rest m n a b less = both_ways (is_preprocessing_token (take n rest)) (a.longest n less b.within) b.token

pub one_order : (m n : ℕ) → (m < n → ⊥) → (n < m → ⊥) → m ≡ n
one_order m n not_less not_more = omega arith

one_longest : (rest : List ℕ) (m n : ℕ) → IsLongestToken rest m → IsLongestToken rest n → m ≡ n
one_longest rest m n a b = one_order m n (no_longer rest m n a b) (no_longer rest n m b a)

no_token : (rest : List ℕ) (n : ℕ) → IsLongestToken rest n → BeginsNoToken rest → ⊥
no_token rest n a none = both_ways (is_preprocessing_token (take n rest)) (none n a.within) a.token

one_token : (rest : List ℕ) (m n : ℕ) (p q : Lexeme) → IsTokenOrFault rest m p → IsTokenOrFault rest n q → Same m n p q
one_token rest _ _ _ _ (token m a) (token n b) = (
  one_longest rest m n a b,
  ap (λ k. lexeme_of (take k rest))
      (one_longest rest m n a b),
)
one_token rest _ _ _ _ (token m a) (unclosed none quoted) = absurd (no_token rest m a none)
one_token rest _ _ _ _ (token m a) (bad none other) = absurd (no_token rest m a none)
one_token rest _ _ _ _ (unclosed none quoted) (token n b) = absurd (no_token rest n b none)
one_token rest _ _ _ _ (unclosed none quoted) (unclosed none_b quoted_b) = (refl, refl)
one_token rest _ _ _ _ (unclosed none quoted) (bad none_b other) = absurd (cc)
one_token rest _ _ _ _ (bad none other) (token n b) = absurd (no_token rest n b none)
one_token rest _ _ _ _ (bad none other) (unclosed none_b quoted) = absurd (cc)
one_token rest _ _ _ _ (bad none other) (bad none_b other_b) = (refl, refl)

-- the comment that ends first ends
not_before : (rest : List ℕ) (k j : ℕ) → 2 ≤ k → closes_at rest k ≡ true
    → ((i : ℕ) → 2 ≤ i → i < j → closes_at rest i ≡ false) → k < j → ⊥
not_before rest k j two there none less = both_ways (closes_at rest k) (none k two less) there

one_comment : (rest : List ℕ) (m n : ℕ) (p q : Lexeme) → IsComment rest m p → IsComment rest n q → Same m n p q
one_comment rest _ _ _ _ (closed k two there none) (closed j two_j there_j none_j) = (
  ap (λ i. i + 2) (one_order k j (not_before rest k j two there none_j)
      (not_before rest j k two_j there_j none)),
  refl,
)
one_comment rest _ _ _ _ (closed k two there none) (open_ never) = absurd
    (both_ways (closes_at rest k) (never k two) there)
one_comment rest _ _ _ _ (open_ never) (closed k two there none) = absurd
    (both_ways (closes_at rest k) (never k two) there)
one_comment rest _ _ _ _ (open_ never) (open_ never_b) = (refl, refl)

one_directive : (line : List ℕ) (p q : Lexeme) → IsDirective line p → IsDirective line q → p ≡ q
one_directive line _ _ (pragma a) (pragma b) = refl
one_directive line _ _ (pragma a) (marker number name b) = refl
one_directive line _ _ (pragma a) (bad b none) = absurd (cc)
one_directive line _ _ (marker number name a) (pragma b) = refl
one_directive line _ _ (marker number name a) (marker other text b) = refl
one_directive line _ _ (marker number name a) (bad b none) = absurd (none number name a)
one_directive line _ _ (bad a none) (pragma b) = absurd (cc)
one_directive line _ _ (bad a none) (marker number name b) = absurd (none number name b)
one_directive line _ _ (bad a none) (bad b none_b) = refl

one_by_beginning : (how : Beginning) (rest : List ℕ) (m n : ℕ) (p q : Lexeme) → IsLexemeOf how rest m p
    → IsLexemeOf how rest n q → Same m n p q
one_by_beginning WhiteSpace rest m n p q a b = (a.0 ∙ sym b.0, a.1 ∙ sym b.1)
one_by_beginning Block rest m n p q a b = one_comment rest m n p q a b
one_by_beginning Line rest m n p q a b = (a.0 ∙ sym b.0, a.1 ∙ sym b.1)
one_by_beginning Hash rest m n p q a b = (a.0 ∙ sym b.0, one_directive _ p q a.1 b.1)
one_by_beginning Other rest m n p q a b = one_token rest m n p q a b

pub one_lexeme : (bytes : List ℕ) (start e f : ℕ) (p q : Lexeme) → IsLexeme bytes start e p → IsLexeme bytes start f q
    → (e ≡ f) × (p ≡ q)
one_lexeme bytes start e f p q a b =
    let same = one_by_beginning (beginning_of (is_clear (take start bytes)) (drop start bytes))
    (drop start bytes) a.size b.size p q a.is.1 b.is.1 in
    (a.ends ∙ (ap (λ k. start + k) same.0 ∙ sym b.ends), same.1)
