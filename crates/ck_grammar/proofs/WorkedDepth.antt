-- How deep a file may nest (C99 6.9), computed on the definitions.
use Rattle.std.proofs.Common.{◌≡◌, ℕ, ◌+◌, ◌-◌, length, zero, suc, ◌≤◌, Bool, true, ◌&&◌, ap, List, [], ◌∷◌, refl, ◌++◌}
use Rattle.std.proofs.Common.{arith}
use Rattle.std.specs.Prelude.{codes}
use Rattle.std.proofs.lemmas.Bool.{false≢true}
use Rattle.std.proofs.lemmas.Slice.Eq.{bytes_eq-Decides}
use Rattle.ck_base.specs.declared.tokens.Token.{Token}
use Rattle.ck_base.specs.declared.tokens.TokenKind.TheVariants as kinds
use Rattle.ck_grammar.proofs.FilesComplete.{one_tree_file}
use Rattle.ck_grammar.proofs.TypeStops.{and_left, and_right}
use Rattle.ck_grammar.proofs.Worked.{at}
use Rattle.ck_grammar.specs.Fitting.{Fits}
use Rattle.ck_grammar.specs.Nesting.{nesting}
use Rattle.ck_grammar.specs.Spelling.{SpellsFile}
use Rattle.ck_grammar.specs.Statements.{External, ExpressionStatement, NoBlockItems, StatementItem, FunctionDefinition}
use Rattle.ck_grammar.specs.StatementsFitting.{FitsFile}
use Rattle.ck_grammar.specs.StatementsNesting.{file_nesting}
use Rattle.ck_grammar.specs.StatementsWritten.{file}
use Rattle.ck_grammar.specs.Trees.{Expr, Constant, Paren, NoSpecifiers, Word, Named, NoDims, Function, VoidParams}
use Rattle.ck_grammar.specs.Words.{is_text, Word as Words, Ordinary, Fixed, Number, word_of}

-- a number in pairs of parentheses, of which these are the tokens
abbrev in_pairs : List (Token × Token) → Token → Expr
in_pairs [] z = Constant z
in_pairs (p ∷ ps) z = Paren p.0 (in_pairs ps z) p.1

abbrev ArePairs : (Token → Words) → List (Token × Token) → Type 0
ArePairs w [] = Unit {0}
ArePairs w (p ∷ ps) = (w p.0 ≡ Fixed (codes "(")) × (w p.1 ≡ Fixed (codes ")")) × ArePairs w ps

pairs_fit : (w : Token → Words) (ps : List (Token × Token)) (z : Token) → ArePairs w ps → w z ≡ Number
    → Fits w (in_pairs ps z)
pairs_fit w [] z pairs number = number
pairs_fit w (p ∷ ps) z pairs number = (pairs.0, pairs_fit w ps z pairs.2 number, pairs.1)

pairs_nest : (ps : List (Token × Token)) (z : Token) → nesting (in_pairs ps z) ≡ suc (length ps)
pairs_nest [] z = refl
pairs_nest (p ∷ ps) z = ap suc (pairs_nest ps z)

-- the tokens of `int main(void) { 0; }`
record MainTokens : Type 0 where
  int_ : Token
  name : Token
  open_ : Token
  void_ : Token
  close : Token
  body : Token
  number : Token
  semicolon : Token
  body_end : Token

record AreMain (w : Token → Words) (t : MainTokens) : Type 0 where
  is_int : w t.int_ ≡ Fixed (codes "int")
  is_name : w t.name ≡ Ordinary
  is_open : w t.open_ ≡ Fixed (codes "(")
  is_void : w t.void_ ≡ Fixed (codes "void")
  is_close : w t.close ≡ Fixed (codes ")")
  is_body : w t.body ≡ Fixed (codes "{")
  is_number : w t.number ≡ Number
  is_semicolon : w t.semicolon ≡ Fixed (codes ";")
  is_body_end : w t.body_end ≡ Fixed (codes "}")

-- `int main(void) { ((0)); }` with these pairs of parentheses
abbrev main_of : MainTokens → List (Token × Token) → List External
main_of t ps =
    FunctionDefinition (Word t.int_ NoSpecifiers)
    (Named [] t.name (Function t.open_ (VoidParams t.void_) t.close NoDims)) t.body
    (StatementItem (ExpressionStatement (in_pairs ps t.number) t.semicolon) NoBlockItems) t.body_end ∷ []

main_fits : (bytes : List ℕ) (t : MainTokens) (ps : List (Token × Token)) → AreMain (word_of bytes []) t
    → ArePairs (word_of bytes []) ps → FitsFile bytes [] (main_of t ps)
main_fits bytes t ps main pairs = (
  (
    ((rw main.is_int refl, tt), rw main.is_int refl, rw main.is_int refl),
    ((tt, rw main.is_name refl, (main.is_open, main.is_void, main.is_close, tt)), refl),
    main.is_body,
    ((pairs_fit (word_of bytes []) ps t.number pairs main.is_number, main.is_semicolon), tt),
    main.is_body_end,
  ),
  tt,
)

main_nests : (t : MainTokens) (ps : List (Token × Token)) → file_nesting (main_of t ps) ≡ length ps + 3
main_nests t ps = omega (arith, pairs_nest ps t.number)

-- at most 197 pairs of parentheses in a body are spelled; more are spelled by no file
main_spelled : (bytes : List ℕ) (t : MainTokens) (ps : List (Token × Token)) → AreMain (word_of bytes []) t
    → ArePairs (word_of bytes []) ps → length ps ≤ 197 → SpellsFile (main_of t ps) bytes (file (main_of t ps) [])
main_spelled bytes t ps main pairs few =
    record { tokens_are = refl; fits = main_fits bytes t ps main pairs; nests = omega (arith, few, main_nests t ps) }

main_too_deep : (bytes : List ℕ) (t : MainTokens) (ps : List (Token × Token)) → AreMain (word_of bytes []) t
    → ArePairs (word_of bytes []) ps
    → 198 ≤ length ps → (xs : List External) → SpellsFile xs bytes (file (main_of t ps) []) → ⊥
main_too_deep bytes t ps main pairs many xs h =
    let same_file : xs ≡ main_of t ps = one_tree_file bytes (length ps + 2) xs (main_of t ps) h.fits
    (main_fits bytes t ps main pairs) (omega (arith, h.nests, many)) (omega (arith, main_nests t ps))
    h.tokens_are in
    omega (arith, many, h.nests, ap file_nesting same_file, main_nests t ps)

-- so many pairs, the outer one opened and closed at these bytes and the others inside it
abbrev pairs_at : ℕ → ℕ → ℕ → List (Token × Token)
pairs_at zero a b = []
pairs_at (suc k) a b = (at kinds.Mark a (suc a), at kinds.Mark b (suc b)) ∷ pairs_at k (suc a) (b - 1)

abbrev tokens_at : ℕ → MainTokens
tokens_at k = record {
  int_ = at kinds.Key 0 3;
  name = at kinds.Word 4 8;
  open_ = at kinds.Mark 8 9;
  void_ = at kinds.Key 9 13;
  close = at kinds.Mark 13 14;
  body = at kinds.Mark 15 16;
  number = at kinds.Number (17 + k) (18 + k);
  semicolon = at kinds.Mark (18 + k + k) (19 + k + k);
  body_end = at kinds.Mark (20 + k + k) (21 + k + k);
}

-- the same tests, computed
abbrev are_pairs : (Token → Words) → List (Token × Token) → Bool
are_pairs w [] = true
are_pairs w (p ∷ ps) = is_text (codes "(") (w p.0) && (is_text (codes ")") (w p.1) && are_pairs w ps)

text_is : (text : List ℕ) (word : Words) → is_text text word ≡ true → word ≡ Fixed text
text_is text (Fixed other) h = ap Fixed ((bytes_eq-Decides other text).0 h)
text_is text _ h = absurd (false≢true h)

tests_hold : (w : Token → Words) (ps : List (Token × Token)) → are_pairs w ps ≡ true → ArePairs w ps
tests_hold w [] h = tt
tests_hold w (p ∷ ps) h =
    let a = is_text (codes "(") (w p.0) in
    let b = is_text (codes ")") (w p.1) in
    let rest = and_right a (b && are_pairs w ps) h in (
      text_is (codes "(") (w p.0) (and_left a (b && are_pairs w ps) h),
      text_is (codes ")") (w p.1)
          (and_left b (are_pairs w ps) rest),
      tests_hold w ps (and_right b (are_pairs w ps) rest),
    )

-- a text so many times before another
abbrev repeated : ℕ → List ℕ → List ℕ → List ℕ
repeated zero text more = more
repeated (suc k) text more = text ++ repeated k text more

-- `int main(void) { 0; }` with so many pairs of parentheses round the 0
abbrev main_text : ℕ → List ℕ
main_text k = codes "int main(void) { " ++ repeated k (codes "(") (codes "0" ++ repeated k (codes ")") (codes "; }"))

spelled_100 : SpellsFile (main_of (tokens_at 100) (pairs_at 100 17 217)) (main_text 100)
    (file (main_of (tokens_at 100) (pairs_at 100 17 217)) [])
spelled_100 = main_spelled (main_text 100) (tokens_at 100) (pairs_at 100 17 217)
    (record {
      is_int = refl;
      is_name = refl;
      is_open = refl;
      is_void = refl;
      is_close = refl;
      is_body = refl;
      is_number = refl;
      is_semicolon = refl;
      is_body_end = refl;
    })
    (tests_hold (word_of (main_text 100) []) (pairs_at 100 17 217) refl) (omega arith)

too_deep_201 : (xs : List External)
    → SpellsFile xs (main_text 201) (file (main_of (tokens_at 201) (pairs_at 201 17 419)) [])
    → ⊥
too_deep_201 = main_too_deep (main_text 201) (tokens_at 201) (pairs_at 201 17 419)
    (record {
      is_int = refl;
      is_name = refl;
      is_open = refl;
      is_void = refl;
      is_close = refl;
      is_body = refl;
      is_number = refl;
      is_semicolon = refl;
      is_body_end = refl;
    })
    (tests_hold (word_of (main_text 201) []) (pairs_at 201 17 419) refl) (omega arith)
