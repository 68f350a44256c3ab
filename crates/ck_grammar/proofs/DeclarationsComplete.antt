-- Declarations are read as they are written (C99 6.7).
use Rattle.std.proofs.Common.{◌≡◌, ℕ, zero, suc, ◌≤◌, Bool, true, false, not, ◌&&◌, List, [], ◌∷◌, length, Some, refl}
use Rattle.std.proofs.Common.{arith}
use Rattle.std.specs.Prelude.{codes}
use Rattle.std.specs.Str.{bytes_eq}
use Rattle.std.proofs.lemmas.Bool.{false≢true}
use Rattle.ck_base.specs.declared.tokens.Token.{Token}
use Rattle.ck_grammar.proofs.ExpressionsComplete.{all_read}
use Rattle.ck_grammar.proofs.InitialisersComplete.{init_read}
use Rattle.ck_grammar.proofs.Labels.{specifiers_no_label}
use Rattle.ck_grammar.proofs.Lengths.{longer_declarator}
use Rattle.ck_grammar.proofs.StatementsLengths.{longer_init}
use Rattle.ck_grammar.proofs.Stops.{StopsAt, at_comma}
use Rattle.ck_grammar.proofs.Texts.{other_word, fixed_stays}
use Rattle.ck_grammar.proofs.TypeStops.{StopsSpecifiers, StopsDeclarator, star_ends, name_ends, specifiers_begin}
use Rattle.ck_grammar.specs.Fitting.{FitsDeclarator, NewName, is_star, may_name}
use Rattle.ck_grammar.specs.Readers.{is_at}
use Rattle.ck_grammar.specs.Reading.{specifiers_at, declarator_at}
use Rattle.ck_grammar.specs.ReadingStatements.{init_at, more_declared as read_more_declared, declared as read_declared}
use Rattle.ck_grammar.specs.ReadingStatements.{declares, declaration_at, is_label}
use Rattle.ck_grammar.specs.ReadingTypes.{begins_with}
use Rattle.ck_grammar.specs.Specified.{Place}
use Rattle.ck_grammar.specs.Statements.{Declared, MoreDeclared, Declaration, Plainly, Initialised, NoMoreDeclared}
use Rattle.ck_grammar.specs.Statements.{Init, AndPlainly, AndInitialised, Bare, Declares}
use Rattle.ck_grammar.specs.StatementsFitting.{FitsMoreDeclared, FitsDeclared, FitsDeclaration, names_after, is_typedef}
use Rattle.ck_grammar.specs.StatementsNesting.{more_declared_nesting, declared_nesting, declaration_nesting}
use Rattle.ck_grammar.specs.StatementsWritten.{init, more_declared, declared, declaration}
use Rattle.ck_grammar.specs.Trees.{Specifiers, Declarator, Abstract, Named, Nested}
use Rattle.ck_grammar.specs.Words.{is_text, Word, Fixed, sort, sort_by, begins_specifiers, word_of}
use Rattle.ck_grammar.specs.Written.{specifiers, declarator}
use Prim.Native.String.{String as Line}

-- specifiers end where a declarator of a new name begins
pub new_name_ends : (w : Token → Word) (d : Declarator) (more : List Token) → FitsDeclarator w NewName d
    → StopsSpecifiers w (declarator d more)
new_name_ends w (Abstract stars ds) more h = absurd (false≢true h.0)
new_name_ends w (Named [] t ds) more h = name_ends NewName (w t) h.1
new_name_ends w (Named (s ∷ ts) t ds) more h = star_ends (sort (w s)) h.0.0
new_name_ends w (Nested [] o d c ds) more h = rw h.1 refl
new_name_ends w (Nested (s ∷ ts) o d c ds) more h = star_ends (sort (w s)) h.0.0

ordinary_not_text : (word : Word) (text : List ℕ) → may_name NewName word ≡ true → is_text text word ≡ false
ordinary_not_text (Fixed other) text h = absurd (false≢true h)
ordinary_not_text _ text h = refl

-- a declarator of a new name begins with a name, with `*` or with `(`
pub new_name_comes_not : (w : Token → Word) (d : Declarator) (more : List Token) (text : Line)
    → FitsDeclarator w NewName d → is_star (sort_by (codes text)) ≡ false → bytes_eq (codes "(") (codes text) ≡ false
    → is_at w text (declarator d more) ≡ false
new_name_comes_not w (Abstract stars ds) more text h fails other = absurd (false≢true h.0)
new_name_comes_not w (Named [] t ds) more text h fails other = ordinary_not_text (w t) (codes text) h.1
new_name_comes_not w (Named (s ∷ ts) t ds) more text h fails other = other_word (λ x. is_star (sort x))
    (w s) (codes text) h.0.0 fails
new_name_comes_not w (Nested [] o d c ds) more text h fails other = rw h.1 other
new_name_comes_not w (Nested (s ∷ ts) o d c ds) more text h fails other =
    other_word (λ x. is_star (sort x)) (w s) (codes text) h.0.0 fails

-- a declaration is no label
pub declaration_no_label : (bytes : List ℕ) (typedefs : List (List ℕ)) (place : Place) (d : Declaration)
    (more : List Token) → FitsDeclaration bytes typedefs place d → is_label (word_of bytes typedefs)
    (declaration d more) ≡ false
declaration_no_label bytes typedefs place (Bare s semicolon) more h = specifiers_no_label
    (word_of bytes typedefs) place s (semicolon ∷ more) h.0.0 h.0.1 (rw h.1 refl)
declaration_no_label bytes typedefs place (Declares s d rest semicolon) more h =
    specifiers_no_label (word_of bytes typedefs) place s (declarator d (declared rest (semicolon ∷ more))) h.0.0 h.0.1
    (new_name_comes_not (word_of bytes typedefs) d (declared rest (semicolon ∷ more)) ":" h.1 refl refl)

pub declaration_begins : (bytes : List ℕ) (typedefs : List (List ℕ)) (place : Place) (d : Declaration)
    (more : List Token) → FitsDeclaration bytes typedefs place d → begins_with
    (word_of bytes typedefs) begins_specifiers (declaration d more) ≡ true
declaration_begins bytes typedefs place (Bare s semicolon) more h = specifiers_begin (word_of bytes typedefs) place s
    (semicolon ∷ more) h.0.0 h.0.1
declaration_begins bytes typedefs place (Declares s d rest semicolon) more h =
    specifiers_begin (word_of bytes typedefs) place s (declarator d (declared rest (semicolon ∷ more))) h.0.0 h.0.1

-- what is after a declarator or an initialiser ends it, whatever the typedef names
more_ends : (bytes : List ℕ) (a b : List (List ℕ)) (types : Bool) (m : MoreDeclared) (semicolon : Token)
    (more : List Token)
    → FitsMoreDeclared bytes a types m → word_of bytes b semicolon ≡ Fixed (codes ";")
    → StopsDeclarator (word_of bytes b) (more_declared m (semicolon ∷ more))
more_ends bytes a b types NoMoreDeclared semicolon more h close = rw close refl
more_ends bytes a b types (AndPlainly comma d rest) semicolon more h close =
    rw (fixed_stays bytes a b comma (codes ",") h.0) refl
more_ends bytes a b types (AndInitialised comma d eq i rest) semicolon more h close =
    rw (fixed_stays bytes a b comma (codes ",") h.0) refl

more_stops : (bytes : List ℕ) (typedefs : List (List ℕ)) (types : Bool) (m : MoreDeclared) (semicolon : Token)
    (more : List Token)
    → FitsMoreDeclared bytes typedefs types m → word_of bytes typedefs semicolon ≡ Fixed (codes ";")
    → StopsAt (word_of bytes typedefs) 12 (more_declared m (semicolon ∷ more))
more_stops bytes typedefs types NoMoreDeclared semicolon more h close = rw close (omega arith)
more_stops bytes typedefs types (AndPlainly comma d rest) semicolon more h close =
    at_comma (word_of bytes typedefs) comma (declarator d (more_declared rest (semicolon ∷ more))) 12 (omega arith) h.0
more_stops bytes typedefs types (AndInitialised comma d eq i rest) semicolon more h close =
    at_comma (word_of bytes typedefs) comma (declarator d (eq ∷ init i (more_declared rest (semicolon ∷ more)))) 12
    (omega arith) h.0

more_no_text : (bytes : List ℕ) (a b : List (List ℕ)) (types : Bool) (m : MoreDeclared) (semicolon : Token)
    (more : List Token) (text : Line)
    → FitsMoreDeclared bytes a types m → word_of bytes b semicolon ≡ Fixed (codes ";")
    → bytes_eq (codes ";") (codes text) ≡ false → bytes_eq (codes ",") (codes text) ≡ false
    → is_at (word_of bytes b) text (more_declared m (semicolon ∷ more)) ≡ false
more_no_text bytes a b types NoMoreDeclared semicolon more text h close other other' = rw close other
more_no_text bytes a b types (AndPlainly comma d rest) semicolon more text h close other other' =
    rw (fixed_stays bytes a b comma (codes ",") h.0) other'
more_no_text bytes a b types (AndInitialised comma d eq i rest) semicolon more text h close other other' =
    rw (fixed_stays bytes a b comma (codes ",") h.0) other'

pub and_false : (a : Bool) → (a && false) ≡ false
and_false true = refl
and_false false = refl

-- a further declarator with an initialiser is read where what is after it is
more_read-initialised : (bytes : List ℕ) (n : ℕ) (types : Bool) (f : ℕ) (typedefs : List (List ℕ)) (comma : Token)
    (d : Declarator) (eq : Token) (i : Init) (rest : MoreDeclared) (semicolon : Token) (more : List Token)
    → FitsMoreDeclared bytes typedefs types (AndInitialised comma d eq i rest)
    → more_declared_nesting (AndInitialised comma d eq i rest) ≤ n
    → word_of bytes typedefs semicolon ≡ Fixed (codes ";")
    → read_more_declared bytes n types f typedefs (more_declared rest (semicolon ∷ more)) ≡ (rest, semicolon ∷ more)
    → read_more_declared bytes n types (suc f) typedefs
    (more_declared (AndInitialised comma d eq i rest) (semicolon ∷ more))
    ≡ (AndInitialised comma d eq i rest, semicolon ∷ more)
more_read-initialised bytes n types f typedefs comma d eq i rest semicolon more h nests close again =
    let first : declarator_at (word_of bytes typedefs) n NewName
    (declarator d (eq ∷ init i (more_declared rest (semicolon ∷ more)))) ≡ Some
    (d, eq ∷ init i (more_declared rest (semicolon ∷ more))) =
    (all_read (word_of bytes typedefs) n).decls NewName d (eq ∷ init i (more_declared rest (semicolon ∷ more))) h.1
    (omega (arith, nests)) (rw h.3 refl) in
    let test : (not types && is_text (codes "=") (word_of bytes typedefs eq)) ≡ true = rw (h.2, h.3) refl in
    let second : init_at (word_of bytes typedefs) n (init i (more_declared rest (semicolon ∷ more))) ≡ Some
    (i, more_declared rest (semicolon ∷ more)) =
    init_read (word_of bytes typedefs) n i (more_declared rest (semicolon ∷ more)) h.4 (omega (arith, nests))
    (more_stops bytes typedefs types rest semicolon more h.5 close) in
    rw (h.0, first, test, h.3, second, again) refl

more_read : (bytes : List ℕ) (n : ℕ) (types : Bool) (f : ℕ) (typedefs : List (List ℕ)) (m : MoreDeclared)
    (semicolon : Token) (more : List Token)
    → FitsMoreDeclared bytes typedefs types m → more_declared_nesting m ≤ n
    → word_of bytes typedefs semicolon ≡ Fixed (codes ";") → length (more_declared m (semicolon ∷ more)) ≤ f
    → read_more_declared bytes n types f typedefs (more_declared m (semicolon ∷ more)) ≡ (m, semicolon ∷ more)
more_read bytes n types zero typedefs NoMoreDeclared semicolon more h nests close fuel = refl
more_read bytes n types (suc f) typedefs NoMoreDeclared semicolon more h nests close fuel = rw close refl
more_read bytes n types (suc f) typedefs (AndPlainly comma d rest) semicolon more h nests close fuel =
    let behind_d = names_after types bytes d typedefs in
    let first : declarator_at (word_of bytes typedefs) n NewName
    (declarator d (more_declared rest (semicolon ∷ more))) ≡ Some (d, more_declared rest (semicolon ∷ more)) =
    (all_read (word_of bytes typedefs) n).decls NewName d (more_declared rest (semicolon ∷ more)) h.1
    (omega (arith, nests)) (more_ends bytes behind_d typedefs types rest semicolon more h.2 close) in
    let again : read_more_declared bytes n types f (names_after types bytes d typedefs)
    (more_declared rest (semicolon ∷ more)) ≡ (rest, semicolon ∷ more) =
    more_read bytes n types f (names_after types bytes d typedefs) rest semicolon more h.2 (omega (arith, nests))
    (fixed_stays bytes typedefs (names_after types bytes d typedefs) semicolon (codes ";") close)
    (omega (arith, fuel, longer_declarator d (more_declared rest (semicolon ∷ more)))) in
    rw (
      h.0,
      first,
      more_no_text bytes (names_after types bytes d typedefs) typedefs types rest semicolon more "=" h.2
          close refl refl,
      and_false (not types),
      again,
    ) refl
more_read bytes n types (suc f) typedefs (AndInitialised comma d eq i rest) semicolon more h nests close fuel =
    more_read-initialised bytes n types f typedefs comma d eq i rest semicolon more h nests close
    (more_read bytes n types f typedefs rest semicolon more h.5 (omega (arith, nests)) close
    (omega (
      arith,
      fuel,
      longer_declarator d (eq ∷ init i (more_declared rest (semicolon ∷ more))),
      longer_init i (more_declared rest (semicolon ∷ more)),
    )))
more_read bytes n types _ typedefs _ semicolon more h nests close fuel = absurd (omega (arith, fuel))

declared_read : (bytes : List ℕ) (n : ℕ) (types : Bool) (typedefs : List (List ℕ)) (x : Declared) (semicolon : Token)
    (more : List Token)
    → FitsDeclared bytes typedefs types x → declared_nesting x ≤ n → word_of bytes typedefs semicolon ≡ Fixed
    (codes ";")
    → read_declared bytes n types typedefs (declared x (semicolon ∷ more)) ≡ Some (x, semicolon ∷ more)
declared_read bytes n types typedefs (Plainly rest) semicolon more h nests close =
    let all : read_more_declared bytes n types (length (more_declared rest (semicolon ∷ more))) typedefs
    (more_declared rest (semicolon ∷ more)) ≡ (rest, semicolon ∷ more) =
    more_read bytes n types (length (more_declared rest (semicolon ∷ more))) typedefs rest semicolon more h nests close
    (omega arith) in
    rw (
      more_no_text bytes typedefs typedefs types rest semicolon more "=" h close refl refl,
      and_false (not types),
      all,
    ) refl
declared_read bytes n types typedefs (Initialised eq i rest) semicolon more h nests close =
    let test : (not types && is_text (codes "=") (word_of bytes typedefs eq)) ≡ true = rw (h.0, h.1) refl in
    let first : init_at (word_of bytes typedefs) n (init i (more_declared rest (semicolon ∷ more))) ≡ Some
    (i, more_declared rest (semicolon ∷ more)) =
    init_read (word_of bytes typedefs) n i (more_declared rest (semicolon ∷ more)) h.2 (omega (arith, nests))
    (more_stops bytes typedefs types rest semicolon more h.3 close) in
    let all : read_more_declared bytes n types (length (more_declared rest (semicolon ∷ more))) typedefs
    (more_declared rest (semicolon ∷ more)) ≡ (rest, semicolon ∷ more) =
    more_read bytes n types (length (more_declared rest (semicolon ∷ more))) typedefs rest semicolon more h.3
    (omega (arith, nests)) close (omega arith) in
    rw (test, h.1, first, all) refl

-- what is after the first declarator of a declaration is read
pub declares_read : (bytes : List ℕ) (typedefs : List (List ℕ)) (n : ℕ) (s : Specifiers) (d : Declarator) (x : Declared)
    (semicolon : Token) (more : List Token)
    → FitsDeclared bytes (names_after (is_typedef (word_of bytes typedefs) s) bytes d typedefs)
    (is_typedef (word_of bytes typedefs) s) x → declared_nesting x ≤ n
    → word_of bytes typedefs semicolon ≡ Fixed (codes ";")
    → declares bytes typedefs n s d (declared x (semicolon ∷ more)) ≡ Some (Declares s d x semicolon, more)
declares_read bytes typedefs n s d x semicolon more h nests close =
    let types = is_typedef (word_of bytes typedefs) s in
    let read : read_declared bytes n (is_typedef (word_of bytes typedefs) s)
    (names_after (is_typedef (word_of bytes typedefs) s) bytes d typedefs) (declared x (semicolon ∷ more)) ≡ Some
    (x, semicolon ∷ more) =
    declared_read bytes n types (names_after types bytes d typedefs) x semicolon more h nests
    (fixed_stays bytes typedefs (names_after types bytes d typedefs) semicolon (codes ";") close) in
    rw (read, close) refl

-- what is after the first declarator ends it
pub declared_ends : (bytes : List ℕ) (a b : List (List ℕ)) (types : Bool) (x : Declared) (semicolon : Token)
    (more : List Token)
    → FitsDeclared bytes a types x → word_of bytes b semicolon ≡ Fixed (codes ";")
    → StopsDeclarator (word_of bytes b) (declared x (semicolon ∷ more))
declared_ends bytes a b types (Plainly rest) semicolon more h close =
    more_ends bytes a b types rest semicolon more h close
declared_ends bytes a b types (Initialised eq i rest) semicolon more h close =
    rw (fixed_stays bytes a b eq (codes "=") h.1) refl

pub declared_no_body : (bytes : List ℕ) (a b : List (List ℕ)) (types : Bool) (x : Declared) (semicolon : Token)
    (more : List Token)
    → FitsDeclared bytes a types x → word_of bytes b semicolon ≡ Fixed (codes ";")
    → is_at (word_of bytes b) "{" (declared x (semicolon ∷ more)) ≡ false
declared_no_body bytes a b types (Plainly rest) semicolon more h close =
    more_no_text bytes a b types rest semicolon more "{" h close refl refl
declared_no_body bytes a b types (Initialised eq i rest) semicolon more h close =
    rw (fixed_stays bytes a b eq (codes "=") h.1) refl

-- a declaration is read, whatever is after it
pub declaration_read : (bytes : List ℕ) (typedefs : List (List ℕ)) (n : ℕ) (place : Place) (x : Declaration)
    (more : List Token)
    → FitsDeclaration bytes typedefs place x → declaration_nesting x ≤ n → declaration_at bytes typedefs n place
    (declaration x more) ≡ Some (x, more)
declaration_read bytes typedefs n place (Bare s semicolon) more h nests =
    let first : specifiers_at (word_of bytes typedefs) n place (specifiers s (semicolon ∷ more)) ≡ Some
    (s, semicolon ∷ more) = (all_read (word_of bytes typedefs) n).specs place s (semicolon ∷ more) h.0.0 h.0.1 nests
    (rw h.1 refl) in
    rw (first, h.1) refl
declaration_read bytes typedefs n place (Declares s d rest semicolon) more h nests =
    let first : specifiers_at (word_of bytes typedefs) n place
    (specifiers s (declarator d (declared rest (semicolon ∷ more)))) ≡ Some
    (s, declarator d (declared rest (semicolon ∷ more))) =
    (all_read (word_of bytes typedefs) n).specs place s (declarator d (declared rest (semicolon ∷ more))) h.0.0 h.0.1
    (omega (arith, nests)) (new_name_ends (word_of bytes typedefs) d (declared rest (semicolon ∷ more)) h.1) in
    let second : declarator_at (word_of bytes typedefs) n NewName
    (declarator d (declared rest (semicolon ∷ more))) ≡ Some (d, declared rest (semicolon ∷ more)) =
    (all_read (word_of bytes typedefs) n).decls NewName d (declared rest (semicolon ∷ more)) h.1 (omega (arith, nests))
    (declared_ends bytes (names_after (is_typedef (word_of bytes typedefs) s) bytes d typedefs) typedefs
    (is_typedef (word_of bytes typedefs) s) rest semicolon more h.2 h.3) in
    rw (
      first,
      new_name_comes_not (word_of bytes typedefs) d (declared rest (semicolon ∷ more))
          ";" h.1 refl refl,
      second,
    )
    (declares_read bytes typedefs n s d rest semicolon more h.2 (omega (arith, nests)) h.3)
