-- Tokens at which reading a level stops, and what it is that a reader reads exactly.
use Rattle.std.proofs.Common.{◌≡◌, ℕ, ◌≤◌, ◌<◌, true, false, List, [], ◌∷◌, Some, nat_eq, arith}
use Rattle.std.specs.Prelude.{codes}
use Rattle.std.proofs.lemmas.Bool.Decides.{nat_tests}
use Rattle.ck_base.specs.declared.tokens.Token.{Token}
use Rattle.ck_grammar.specs.Fitting.{Fits, operator_level, precedence}
use Rattle.ck_grammar.specs.Nesting.{nesting}
use Rattle.ck_grammar.specs.Readers.{Reader}
use Rattle.ck_grammar.specs.Trees.{Expr}
use Rattle.ck_grammar.specs.Words.{Word, Fixed, Follow, Operator, Nothing, follow}
use Rattle.ck_grammar.specs.Written.{written}

-- how loosely it binds to what is before it; 14 is not at all
abbrev pub looseness : Follow → ℕ
looseness (Operator k) = k
looseness Nothing = 14
looseness _ = 0

-- the first of these tokens binds more loosely than the level
abbrev pub StopsAt : (Token → Word) → ℕ → List Token → Type 0
StopsAt w j [] = Unit {0}
StopsAt w j (t ∷ ts) = j < looseness (follow (w t))

-- the reader reads each expression of the level that nests so deep, before tokens at which the level stops
abbrev pub ReadsAt : (Token → Word) → ℕ → ℕ → Reader Expr → Type 0
ReadsAt w n j q = (e : Expr) (more : List Token) → Fits w e → nesting e ≤ n → precedence w e ≤ j → StopsAt w j more
    → q (written e more) ≡ Some (e, more)

abbrev pub Exact : (Token → Word) → ℕ → (ℕ → Reader Expr) → Type 0
Exact w n p = (j : ℕ) → j ≤ 13 → ReadsAt w n j (p j)

pub stops_below : (w : Token → Word) (i j : ℕ) (more : List Token) → i ≤ j → StopsAt w j more → StopsAt w i more
stops_below w i j [] le h = tt
stops_below w i j (t ∷ ts) le h = omega (arith, le, h)

pub same : (a : ℕ) → nat_eq a a ≡ true
same a = grind (arith, nat_tests)

pub differ : (a b : ℕ) → (a ≡ b → ⊥) → nat_eq a b ≡ false
differ a b h = grind (arith, nat_tests)

-- a token that binds more loosely is no operator of the level
pub no_operator : (x : Follow) (k : ℕ) → 1 ≤ k → k < looseness x → nat_eq (operator_level x) k ≡ false
no_operator (Operator m) k one lt = differ m k (λ e. omega (arith, one, lt, e))
no_operator Nothing k one lt = differ 0 k (λ e. omega (arith, one, lt, e))
no_operator _ k one lt = differ 0 k (λ e. omega (arith, one, lt))

-- the marks after an expression that nothing binds to
pub at_round : (w : Token → Word) (c : Token) (ts : List Token) (j : ℕ) → j ≤ 13 → w c ≡ Fixed (codes ")")
    → StopsAt w j (c ∷ ts)
at_round w c ts j le h = rw h (omega (arith, le))

pub at_square : (w : Token → Word) (c : Token) (ts : List Token) (j : ℕ) → j ≤ 13 → w c ≡ Fixed (codes "]")
    → StopsAt w j (c ∷ ts)
at_square w c ts j le h = rw h (omega (arith, le))

pub at_curly : (w : Token → Word) (c : Token) (ts : List Token) (j : ℕ) → j ≤ 13 → w c ≡ Fixed (codes "}")
    → StopsAt w j (c ∷ ts)
at_curly w c ts j le h = rw h (omega (arith, le))

pub at_colon : (w : Token → Word) (c : Token) (ts : List Token) (j : ℕ) → j ≤ 13 → w c ≡ Fixed (codes ":")
    → StopsAt w j (c ∷ ts)
at_colon w c ts j le h = rw h (omega (arith, le))

pub at_question : (w : Token → Word) (c : Token) (ts : List Token) → w c ≡ Fixed (codes "?") → StopsAt w 10 (c ∷ ts)
at_question w c ts h = rw h (omega arith)

pub at_comma : (w : Token → Word) (c : Token) (ts : List Token) (j : ℕ) → j ≤ 12 → w c ≡ Fixed (codes ",")
    → StopsAt w j (c ∷ ts)
at_comma w c ts j le h = rw h (omega (arith, le))

pub at_operator : (w : Token → Word) (c : Token) (ts : List Token) (j k : ℕ) → j < k → follow (w c) ≡ Operator k
    → StopsAt w j (c ∷ ts)
at_operator w c ts j k lt h = rw h lt

pub at_semicolon : (w : Token → Word) (c : Token) (ts : List Token) (j : ℕ) → j ≤ 13 → w c ≡ Fixed (codes ";")
    → StopsAt w j (c ∷ ts)
at_semicolon w c ts j le h = rw h (omega (arith, le))
