-- External declarations and files are read as they are written (C99 6.9), and so no tokens are spelled by two trees.
use Rattle.std.proofs.Common.{◌≡◌, ℕ, ◌-◌, zero, suc, ◌≤◌, true, not, ◌&&◌, List, [], ◌∷◌, length, Option, Some, None}
use Rattle.std.proofs.Common.{refl, sym, ap, ◌∙◌, arith}
use Rattle.ck_base.specs.declared.tokens.Token.{Token}
use Rattle.ck_grammar.proofs.ExpressionsComplete.{all_read}
use Rattle.ck_grammar.proofs.DeclarationsComplete.{new_name_ends, new_name_comes_not, declares_read, declared_ends}
use Rattle.ck_grammar.proofs.DeclarationsComplete.{declared_no_body, declaration_read}
use Rattle.ck_grammar.proofs.StatementsLengths.{longer_external, not_empty}
use Rattle.ck_grammar.proofs.StatementsComplete.{statement_read, body_read}
use Rattle.ck_grammar.specs.Fitting.{NewName}
use Rattle.ck_grammar.specs.Reading.{specifiers_at, declarator_at}
use Rattle.ck_grammar.specs.ReadingStatements.{declaration_at, statement_at, is_function, body_at, external_at}
use Rattle.ck_grammar.specs.ReadingStatements.{file_loop, file_at}
use Rattle.ck_grammar.specs.Specified.{Place, InFile}
use Rattle.ck_grammar.specs.Spelling.{most, SpellsDeclaration, SpellsStatement, SpellsExternal, SpellsFile}
use Rattle.ck_grammar.specs.Spelling.{OneDeclaration, OneStatement, OneExternal, OneFile}
use Rattle.ck_grammar.specs.Statements.{Declaration, Statement, External, Bare, Declares, FileDeclaration}
use Rattle.ck_grammar.specs.Statements.{BlockItems, FunctionDefinition}
use Rattle.ck_grammar.specs.StatementsFitting.{FitsExternal, FitsFile, names_after, is_typedef, shape, external_after}
use Rattle.ck_grammar.specs.StatementsNesting.{external_nesting, file_nesting}
use Rattle.ck_grammar.specs.StatementsWritten.{declared, items, external, file}
use Rattle.ck_grammar.specs.Trees.{Specifiers, Declarator}
use Rattle.ck_grammar.specs.Words.{word_of}
use Rattle.ck_grammar.specs.Written.{specifiers, declarator}

-- a function's definition is read, whatever is after it
function_read : (bytes : List ℕ) (typedefs : List (List ℕ)) (n : ℕ) (s : Specifiers) (d : Declarator) (o : Token)
    (is : BlockItems) (c : Token) (more : List Token)
    → FitsExternal bytes typedefs (FunctionDefinition s d o is c)
    → external_nesting (FunctionDefinition s d o is c) ≤ suc n
    → external_at bytes typedefs n (external (FunctionDefinition s d o is c) more)
    ≡ Some (FunctionDefinition s d o is c, more)
function_read bytes typedefs n s d o is c more h nests =
    let w = word_of bytes typedefs in
    let first : specifiers_at (word_of bytes typedefs) (suc n) InFile
    (specifiers s (declarator d (o ∷ items is (c ∷ more)))) ≡ Some (s, declarator d (o ∷ items is (c ∷ more))) =
    (all_read w (suc n)).specs InFile s (declarator d (o ∷ items is (c ∷ more))) h.0.0 h.0.1 (omega (arith, nests))
    (new_name_ends w d (o ∷ items is (c ∷ more)) h.1.0) in
    let second : declarator_at (word_of bytes typedefs) (suc n) NewName (declarator d (o ∷ items is (c ∷ more))) ≡ Some
    (d, o ∷ items is (c ∷ more)) =
    (all_read w (suc n)).decls NewName d (o ∷ items is (c ∷ more)) h.1.0 (omega (arith, nests)) (rw h.2 refl) in
    let test : (not (is_typedef (word_of bytes typedefs) s) && is_function (shape d)) ≡ true = rw (h.0.2, h.1.1) refl in
    let third : body_at bytes typedefs n (items is (c ∷ more)) ≡ (is, c ∷ more) =
    body_read bytes typedefs n is c more h.3 (omega (arith, nests)) h.4 in
    rw (
      first,
      new_name_comes_not w d (o ∷ items is (c ∷ more)) ";" h.1.0 refl refl,
      second,
      h.2,
      test,
      third,
      h.4,
    ) refl

-- an external declaration is read, whatever is after it
pub external_read : (bytes : List ℕ) (typedefs : List (List ℕ)) (n : ℕ) (x : External) (more : List Token)
    → FitsExternal bytes typedefs x → external_nesting x ≤ suc n → external_at bytes typedefs n (external x more) ≡ Some
    (x, more)
external_read bytes typedefs n (FileDeclaration (Bare s semicolon)) more h nests =
    let first : specifiers_at (word_of bytes typedefs) (suc n) InFile (specifiers s (semicolon ∷ more)) ≡ Some
    (s, semicolon ∷ more) = (all_read (word_of bytes typedefs) (suc n)).specs InFile s
    (semicolon ∷ more) h.0.0 h.0.1 nests (rw h.1 refl) in
    rw (first, h.1) refl
external_read bytes typedefs n (FileDeclaration (Declares s d rest semicolon)) more h nests =
    let w = word_of bytes typedefs in
    let a = names_after (is_typedef (word_of bytes typedefs) s) bytes d typedefs in
    let first : specifiers_at (word_of bytes typedefs) (suc n) InFile
    (specifiers s (declarator d (declared rest (semicolon ∷ more)))) ≡ Some
    (s, declarator d (declared rest (semicolon ∷ more))) =
    (all_read w (suc n)).specs InFile s (declarator d (declared rest (semicolon ∷ more))) h.0.0 h.0.1
    (omega (arith, nests)) (new_name_ends w d (declared rest (semicolon ∷ more)) h.1) in
    let second : declarator_at (word_of bytes typedefs) (suc n) NewName
    (declarator d (declared rest (semicolon ∷ more))) ≡ Some (d, declared rest (semicolon ∷ more)) =
    (all_read w (suc n)).decls NewName d (declared rest (semicolon ∷ more)) h.1 (omega (arith, nests))
    (declared_ends bytes a typedefs (is_typedef w s) rest semicolon more h.2 h.3) in
    rw (
      first,
      new_name_comes_not w d (declared rest (semicolon ∷ more)) ";" h.1 refl refl,
      second,
      declared_no_body bytes a typedefs (is_typedef w s) rest semicolon more h.2 h.3,
      declares_read bytes typedefs (suc n) s d rest semicolon more h.2 (omega (arith, nests)) h.3,
    ) refl
external_read bytes typedefs n (FunctionDefinition s d o is c) more h nests =
    function_read bytes typedefs n s d o is c more h nests

pub file_read : (bytes : List ℕ) (n f : ℕ) (typedefs : List (List ℕ)) (xs : List External)
    → FitsFile bytes typedefs xs → file_nesting xs ≤ suc n → length (file xs []) ≤ f
    → file_loop bytes n f typedefs (file xs []) ≡ Some xs
file_read bytes n zero typedefs [] h nests fuel = refl
file_read bytes n (suc f) typedefs [] h nests fuel = refl
file_read bytes n zero typedefs (x ∷ xs) h nests fuel = absurd (omega (arith, fuel, longer_external x (file xs [])))
file_read bytes n (suc f) typedefs (x ∷ xs) h nests fuel =
    let first : external_at bytes typedefs n (external x (file xs [])) ≡ Some (x, file xs []) =
    external_read bytes typedefs n x (file xs []) h.0 (omega (arith, nests)) in
    let again : file_loop bytes n f (external_after bytes x typedefs) (file xs []) ≡ Some xs =
    file_read bytes n f (external_after bytes x typedefs) xs h.1 (omega (arith, nests))
    (omega (arith, fuel, longer_external x (file xs []))) in
    rw (not_empty (external x (file xs [])) (omega (arith, longer_external x (file xs []))), first, again) refl

-- what was read, in place of another
abbrev read_or : {A : Type 0} → Option A → A → A
read_or None x = x
read_or (Some y) x = y

abbrev first_of_read : {A : Type 0} → Option (A × List Token) → A → A
first_of_read None x = x
first_of_read (Some y) x = y.0

-- files that nest so deep and are written alike are one
pub one_tree_file : (bytes : List ℕ) (n : ℕ) (xs ys : List External)
    → FitsFile bytes [] xs → FitsFile bytes [] ys → file_nesting xs ≤ suc n → file_nesting ys ≤ suc n
    → file xs [] ≡ file ys [] → xs ≡ ys
one_tree_file bytes n xs ys h k nests nests' same_tokens =
    ap (λ r. read_or r xs) (sym (file_read bytes n (length (file xs [])) [] xs h nests (omega arith))
    ∙ ap (λ ts. file_loop bytes n (length ts) [] ts) same_tokens ∙ file_read bytes n
    (length (file ys [])) [] ys k nests' (omega arith))

-- each is read from the tokens that it spells
pub spelled_declaration_is_read : (place : Place) (bytes : List ℕ) (typedefs : List (List ℕ)) (tokens : List Token)
    (d : Declaration) → SpellsDeclaration place d bytes tokens typedefs
    → declaration_at bytes typedefs most place tokens ≡ Some (d, [])
spelled_declaration_is_read place bytes typedefs tokens d h = ap (declaration_at bytes typedefs most place)
    (sym h.tokens_are) ∙ declaration_read bytes typedefs most place d [] h.fits h.nests

pub spelled_statement_is_read : (bytes : List ℕ) (typedefs : List (List ℕ)) (tokens : List Token) (s : Statement)
    → SpellsStatement s bytes tokens typedefs → statement_at bytes typedefs most tokens ≡ Some (s, [])
spelled_statement_is_read bytes typedefs tokens s h = ap (statement_at bytes typedefs most) (sym h.tokens_are)
    ∙ statement_read bytes typedefs most s [] h.fits h.nests (λ open_. refl)

pub spelled_external_is_read : (bytes : List ℕ) (typedefs : List (List ℕ)) (tokens : List Token) (x : External)
    → SpellsExternal x bytes tokens typedefs → external_at bytes typedefs (most - 1) tokens ≡ Some (x, [])
spelled_external_is_read bytes typedefs tokens x h = ap (external_at bytes typedefs (most - 1)) (sym h.tokens_are)
    ∙ external_read bytes typedefs (most - 1) x [] h.fits h.nests

pub spelled_file_is_read : (bytes : List ℕ) (tokens : List Token) (xs : List External) → SpellsFile xs bytes tokens
    → file_at bytes tokens ≡ Some xs
spelled_file_is_read bytes tokens xs h = ap (file_at bytes) (sym h.tokens_are)
    ∙ file_read bytes (most - 1) (length (file xs [])) [] xs h.fits h.nests (omega arith)

pub one_declaration : OneDeclaration
one_declaration place bytes typedefs tokens d e h k = ap (λ r. first_of_read r d)
    (sym (spelled_declaration_is_read place bytes typedefs tokens d h)
    ∙ spelled_declaration_is_read place bytes typedefs tokens e k)

pub one_statement : OneStatement
one_statement bytes typedefs tokens s t h k = ap (λ r. first_of_read r s)
    (sym (spelled_statement_is_read bytes typedefs tokens s h) ∙ spelled_statement_is_read bytes typedefs tokens t k)

pub one_external : OneExternal
one_external bytes typedefs tokens x y h k =
    ap (λ r. first_of_read r x)
    (sym (spelled_external_is_read bytes typedefs tokens x h) ∙ spelled_external_is_read bytes typedefs tokens y k)

pub one_file : OneFile
one_file bytes tokens xs ys h k =
    ap (λ r. read_or r xs) (sym (spelled_file_is_read bytes tokens xs h) ∙ spelled_file_is_read bytes tokens ys k)
