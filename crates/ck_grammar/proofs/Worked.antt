-- Worked texts, computed on the definitions.
use Rattle.std.proofs.Common.{◌≡◌, ℕ, zero, suc, ◌≤◌, ◌<◌, ap, List, [], ◌∷◌, Some, None, refl, arith}
use Rattle.std.specs.Prelude.{codes}
use Rattle.ck_base.specs.declared.tokens.Token.{Token}
use Rattle.ck_base.specs.declared.tokens.TokenKind.{TokenKind}
use Rattle.ck_base.specs.declared.tokens.TokenKind.TheVariants as kinds
use Rattle.ck_grammar.specs.Fitting.{Fits}
use Rattle.ck_grammar.specs.Nesting.{nesting}
use Rattle.ck_grammar.specs.Reading.{expr_at}
use Rattle.ck_grammar.specs.Spelling.{Spells, most}
use Rattle.ck_grammar.specs.Trees.{Expr, Name, Constant, Paren, Postfix, Unary, SizeofType, Cast, Chain, Conditional}
use Rattle.ck_grammar.specs.Trees.{Assignment, NoOperands, Operand, NoSuffixes, Index, Call, MemberAccess}
use Rattle.ck_grammar.specs.Trees.{PostIncrement, NoSpecifiers, Word, TypedefName, Struct, Enum, NoMembers, Member}
use Rattle.ck_grammar.specs.Trees.{NoDeclarators, Abstract, Named, Nested, NoDims, Function, VoidParams, Parameters}
use Rattle.ck_grammar.specs.Trees.{NoMore, Ellipsis, LastValued, One}
use Rattle.ck_grammar.specs.Words.{Word as Words, Fixed, Number, word_of}
use Rattle.ck_grammar.specs.Written.{written}
use Rattle.ck_grammar.proofs.ExpressionsComplete.{one_tree}

-- a token of a kind, from a byte up to a byte
abbrev pub at : TokenKind → ℕ → ℕ → Token
at kind start end = record { kind = kind; span = record { file = 0; start = start; end = end } }

-- `sizeof (void (*)(int, ...))`: a type name with a pointer to a function that takes an int and more
pointer_to_function : Spells
    (SizeofType (at kinds.Key 0 6) (at kinds.Mark 7 8) (Word (at kinds.Key 8 12) NoSpecifiers)
    (Nested [] (at kinds.Mark 13 14) (Abstract ((at kinds.Mark 14 15) ∷ []) NoDims) (at kinds.Mark 15 16)
    (Function (at kinds.Mark 16 17)
    (Parameters (Word (at kinds.Key 17 20) NoSpecifiers) (Abstract [] NoDims)
    (Ellipsis (at kinds.Mark 20 21) (at kinds.Mark 22 25))) (at kinds.Mark 25 26) NoDims)) (at kinds.Mark 26 27))
    (codes "sizeof (void (*)(int, ...))")
    (at kinds.Key 0 6 ∷ at kinds.Mark 7 8 ∷ at kinds.Key 8 12 ∷ at kinds.Mark 13 14 ∷ at kinds.Mark 14 15
    ∷ at kinds.Mark 15 16 ∷ at kinds.Mark 16 17 ∷ at kinds.Key 17 20 ∷ at kinds.Mark 20 21 ∷ at kinds.Mark 22 25
    ∷ at kinds.Mark 25 26 ∷ at kinds.Mark 26 27 ∷ []) ([])
pointer_to_function = record { tokens_are = refl; fits = search arith; nests = omega arith }

-- `(int (*)(void))p`: `(void)` is the empty parameter list
void_parameters : Spells
    (Cast (at kinds.Mark 0 1) (Word (at kinds.Key 1 4) NoSpecifiers)
    (Nested [] (at kinds.Mark 5 6) (Abstract ((at kinds.Mark 6 7) ∷ []) NoDims) (at kinds.Mark 7 8)
    (Function (at kinds.Mark 8 9) (VoidParams (at kinds.Key 9 13)) (at kinds.Mark 13 14) NoDims)) (at kinds.Mark 14 15)
    (Name (at kinds.Word 15 16))) (codes "(int (*)(void))p")
    (at kinds.Mark 0 1 ∷ at kinds.Key 1 4 ∷ at kinds.Mark 5 6 ∷ at kinds.Mark 6 7 ∷ at kinds.Mark 7 8
    ∷ at kinds.Mark 8 9 ∷ at kinds.Key 9 13 ∷ at kinds.Mark 13 14 ∷ at kinds.Mark 14 15 ∷ at kinds.Word 15 16 ∷ []) ([])
void_parameters = record { tokens_are = refl; fits = search arith; nests = omega arith }

-- `sizeof (int (t))`: a typedef name in parentheses in an abstract declarator is a parameter
typedef_parameter : Spells
    (SizeofType (at kinds.Key 0 6) (at kinds.Mark 7 8) (Word (at kinds.Key 8 11) NoSpecifiers)
    (Abstract []
    (Function (at kinds.Mark 12 13)
    (Parameters (TypedefName (at kinds.Word 13 14) NoSpecifiers) (Abstract [] NoDims) NoMore)
    (at kinds.Mark 14 15) NoDims)) (at kinds.Mark 15 16)) (codes "sizeof (int (t))")
    (at kinds.Key 0 6 ∷ at kinds.Mark 7 8 ∷ at kinds.Key 8 11 ∷ at kinds.Mark 12 13 ∷ at kinds.Word 13 14
    ∷ at kinds.Mark 14 15 ∷ at kinds.Mark 15 16 ∷ []) (codes "t" ∷ [])
typedef_parameter = record { tokens_are = refl; fits = search arith; nests = omega arith }

-- `sizeof (struct s { t t; })`: a member may be called as a typedef name
member_named_as_type : Spells
    (SizeofType (at kinds.Key 0 6) (at kinds.Mark 7 8)
    (Struct (at kinds.Key 8 14) (Some (at kinds.Word 15 16)) (at kinds.Mark 17 18)
    (Member (TypedefName (at kinds.Word 19 20) NoSpecifiers) (Named [] (at kinds.Word 21 22) NoDims) NoDeclarators
    (at kinds.Mark 22 23) NoMembers) (at kinds.Mark 24 25) NoSpecifiers) (Abstract [] NoDims) (at kinds.Mark 25 26))
    (codes "sizeof (struct s { t t; })")
    (at kinds.Key 0 6 ∷ at kinds.Mark 7 8 ∷ at kinds.Key 8 14 ∷ at kinds.Word 15 16 ∷ at kinds.Mark 17 18
    ∷ at kinds.Word 19 20 ∷ at kinds.Word 21 22 ∷ at kinds.Mark 22 23 ∷ at kinds.Mark 24 25 ∷ at kinds.Mark 25 26 ∷ [])
    (codes "t" ∷ [])
member_named_as_type = record { tokens_are = refl; fits = search arith; nests = omega arith }

-- `sizeof (enum { A, B = 2, })`: the last enumerator may have a comma after it
enumerators : Spells
    (SizeofType (at kinds.Key 0 6) (at kinds.Mark 7 8)
    (Enum (at kinds.Key 8 12) None (at kinds.Mark 13 14)
    (One (at kinds.Word 15 16) (at kinds.Mark 16 17)
    (LastValued (at kinds.Word 18 19) (at kinds.Mark 20 21) (Constant (at kinds.Number 22 23))
    (Some (at kinds.Mark 23 24)))) (at kinds.Mark 25 26) NoSpecifiers) (Abstract [] NoDims) (at kinds.Mark 26 27))
    (codes "sizeof (enum { A, B = 2, })")
    (at kinds.Key 0 6 ∷ at kinds.Mark 7 8 ∷ at kinds.Key 8 12 ∷ at kinds.Mark 13 14 ∷ at kinds.Word 15 16
    ∷ at kinds.Mark 16 17 ∷ at kinds.Word 18 19 ∷ at kinds.Mark 20 21 ∷ at kinds.Number 22 23 ∷ at kinds.Mark 23 24
    ∷ at kinds.Mark 25 26 ∷ at kinds.Mark 26 27 ∷ []) ([])
enumerators = record { tokens_are = refl; fits = search arith; nests = omega arith }

-- `a + )`: the longest expression at the front is `a`
longest : expr_at (word_of (codes "a + )") []) most 13
    (at kinds.Word 0 1 ∷ at kinds.Mark 2 3 ∷ at kinds.Mark 4 5 ∷ []) ≡ Some
    (Name (at kinds.Word 0 1), at kinds.Mark 2 3 ∷ at kinds.Mark 4 5 ∷ [])
longest = refl

-- a name in so many parentheses
abbrev parens : Token → Token → Token → ℕ → Expr
parens o z c zero = Constant z
parens o z c (suc k) = Paren o (parens o z c k) c

parens_fit : (w : Token → Words) (o z c : Token) (k : ℕ) → w o ≡ Fixed (codes "(") → w z ≡ Number
    → w c ≡ Fixed (codes ")") → Fits w (parens o z c k)
parens_fit w o z c zero open_ number close = number
parens_fit w o z c (suc k) open_ number close = (open_, parens_fit w o z c k open_ number close, close)

parens_nest : (o z c : Token) (k : ℕ) → nesting (parens o z c k) ≡ suc k
parens_nest o z c zero = refl
parens_nest o z c (suc k) = ap suc (parens_nest o z c k)

-- 100 pairs of parentheses round a number are spelled, and so are 199; 200 and 201 are spelled by no tree
parens_spell : (o z c : Token) (bytes : List ℕ) (typedefs : List (List ℕ)) (k : ℕ)
    → word_of bytes typedefs o ≡ Fixed (codes "(") → word_of bytes typedefs z ≡ Number
    → word_of bytes typedefs c ≡ Fixed (codes ")")
    → k < 200 → Spells (parens o z c k) bytes (written (parens o z c k) []) typedefs
parens_spell o z c bytes typedefs k open_ number close few =
    record {
      tokens_are = refl;
      fits = parens_fit (word_of bytes typedefs) o z c k open_ number close;
      nests =
          rw (parens_nest o z c k) few;
    }

too_deep : (o z c : Token) (bytes : List ℕ) (typedefs : List (List ℕ)) (k : ℕ)
    → word_of bytes typedefs o ≡ Fixed (codes "(") → word_of bytes typedefs z ≡ Number
    → word_of bytes typedefs c ≡ Fixed (codes ")")
    → 200 ≤ k → (e : Expr) → Spells e bytes (written (parens o z c k) []) typedefs → ⊥
too_deep o z c bytes typedefs k open_ number close many e h =
    let w = word_of bytes typedefs in
    let same_tree : e ≡ parens o z c k = one_tree w (suc k) e (parens o z c k) h.fits
    (parens_fit w o z c k open_ number close) (omega (arith, h.nests, many))
    (omega (arith, parens_nest o z c k)) h.tokens_are in
    omega (arith, many, h.nests, ap nesting same_tree, parens_nest o z c k)
