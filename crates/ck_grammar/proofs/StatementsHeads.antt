-- What statements begin with (C99 6.8).
use Rattle.std.proofs.Common.{◌≡◌, inl, inr, ℕ, zero, suc, true, false, not, ◌&&◌, List, [], ◌∷◌, None, refl}
use Rattle.std.specs.Prelude.{codes}
use Rattle.std.proofs.lemmas.Bool.{false≢true}
use Rattle.ck_base.specs.declared.tokens.Token.{Token}
use Rattle.ck_grammar.proofs.Heads.{begins, no_specifiers_begin}
use Rattle.ck_grammar.proofs.DeclarationsComplete.{declaration_begins, and_false}
use Rattle.ck_grammar.proofs.Texts.{other_word, operand_comes_not, specifiers_come_not}
use Rattle.ck_grammar.specs.Phrases.{NamePhrase, JumpPhrase, phrase}
use Rattle.ck_grammar.specs.Readers.{Reader, is_at}
use Rattle.ck_grammar.specs.ReadingExpressions.{begins_operand}
use Rattle.ck_grammar.specs.ReadingStatements.{is_label, expression_statement, statement_by, read_statement}
use Rattle.ck_grammar.specs.ReadingStatements.{statement_at}
use Rattle.ck_grammar.specs.ReadingTypes.{begins_with}
use Rattle.ck_grammar.specs.Specified.{InBlock}
use Rattle.ck_grammar.specs.Statements.{Declaration, Statement, BlockItems, Empty, ExpressionStatement, If, IfElse}
use Rattle.ck_grammar.specs.Statements.{Switch, While, Label, Jump, NoBlockItems, DeclarationItem, StatementItem}
use Rattle.ck_grammar.specs.StatementsFitting.{FitsStatement, FitsItems, IsJump}
use Rattle.ck_grammar.specs.StatementsWritten.{declaration, statement, items}
use Rattle.ck_grammar.specs.Trees.{Expr}
use Rattle.ck_grammar.specs.Words.{begins_lead, is_text, Word, Ordinary, Typedef, Number, String, Fixed}
use Rattle.ck_grammar.specs.Words.{begins_specifiers, is_identifier, lead, sort, word_of}
use Rattle.ck_grammar.specs.Written.{written}

pub leave_phrase : (word : Word) → IsJump word → phrase word ≡ JumpPhrase
leave_phrase word (inl h) = rw h refl
leave_phrase word (inr h) = rw h refl

leave_not_else : (word : Word) → IsJump word → is_text (codes "else") word ≡ false
leave_not_else word (inl h) = rw h refl
leave_not_else word (inr h) = rw h refl

leave_no_specifiers : (word : Word) → IsJump word → begins_specifiers (sort word) ≡ false
leave_no_specifiers word (inl h) = rw h refl
leave_no_specifiers word (inr h) = rw h refl

pub name_phrase : (word : Word) → is_identifier word ≡ true → phrase word ≡ NamePhrase
name_phrase Ordinary h = refl
name_phrase Typedef h = refl
name_phrase _ h = absurd (false≢true h)

pub operand_no_specifiers : (w : Token → Word) (ts : List Token) → begins_operand w ts ≡ true
    → begins_with w begins_specifiers ts ≡ false
operand_no_specifiers w [] h = refl
operand_no_specifiers w (t ∷ ts) h = no_specifiers_begin (w t) h

-- no statement begins with `else`
statement_no_else : (bytes : List ℕ) (typedefs : List (List ℕ)) (s : Statement) (more : List Token)
    → FitsStatement bytes typedefs s → is_at (word_of bytes typedefs) "else" (statement s more) ≡ false
statement_no_else bytes typedefs (Empty semicolon) more h = rw h refl
statement_no_else bytes typedefs (ExpressionStatement e semicolon) more h =
    operand_comes_not (word_of bytes typedefs) (written e (semicolon ∷ more)) "else"
    (begins (word_of bytes typedefs) e (semicolon ∷ more) h.0) refl
statement_no_else bytes typedefs (If k o e c s) more h = rw h.0.0 refl
statement_no_else bytes typedefs (IfElse k o e c s l t) more h = rw h.0.0 refl
statement_no_else bytes typedefs (Switch k o e c s) more h = rw h.0.0 refl
statement_no_else bytes typedefs (While k o e c s) more h = rw h.0.0 refl
statement_no_else bytes typedefs (Label t colon s) more h = other_word is_identifier (word_of bytes typedefs t)
    (codes "else") h.0 refl
statement_no_else bytes typedefs (Jump k semicolon) more h = leave_not_else (word_of bytes typedefs k) h.0
statement_no_else bytes typedefs _ more h = rw h.0 refl

pub items_no_else : (bytes : List ℕ) (typedefs : List (List ℕ)) (is : BlockItems) (c : Token) (more : List Token)
    → FitsItems bytes typedefs is → word_of bytes typedefs c ≡ Fixed (codes "}")
    → is_at (word_of bytes typedefs) "else" (items is (c ∷ more)) ≡ false
items_no_else bytes typedefs NoBlockItems c more h close = rw close refl
items_no_else bytes typedefs (DeclarationItem d rest) c more h close = specifiers_come_not (word_of bytes typedefs)
    (declaration d (items rest (c ∷ more))) "else"
    (declaration_begins bytes typedefs InBlock d (items rest (c ∷ more)) h.0) refl
items_no_else bytes typedefs (StatementItem s rest) c more h close = statement_no_else bytes typedefs s
    (items rest (c ∷ more)) h.0

-- a statement begins as no declaration does
pub no_declaration : (bytes : List ℕ) (typedefs : List (List ℕ)) (s : Statement) (more : List Token)
    → FitsStatement bytes typedefs s
    → (begins_with (word_of bytes typedefs) begins_specifiers (statement s more) && not
    (is_label (word_of bytes typedefs) (statement s more))) ≡ false
no_declaration bytes typedefs (Empty semicolon) more h = rw h refl
no_declaration bytes typedefs (ExpressionStatement e semicolon) more h = rw
    (operand_no_specifiers (word_of bytes typedefs) (written e (semicolon ∷ more))
    (begins (word_of bytes typedefs) e (semicolon ∷ more) h.0)) refl
no_declaration bytes typedefs (If k o e c s) more h = rw h.0.0 refl
no_declaration bytes typedefs (IfElse k o e c s l t) more h = rw h.0.0 refl
no_declaration bytes typedefs (Switch k o e c s) more h = rw h.0.0 refl
no_declaration bytes typedefs (While k o e c s) more h = rw h.0.0 refl
no_declaration bytes typedefs (Label t colon s) more h =
    rw (h.0, h.1) (and_false (begins_specifiers (sort (word_of bytes typedefs t))))
no_declaration bytes typedefs (Jump k semicolon) more h = rw (leave_no_specifiers (word_of bytes typedefs k) h.0) refl
no_declaration bytes typedefs _ more h = rw h.0 refl

-- what an operand can begin with and no label is, begins an expression
evaluates_by : (w : Token → Word) (p : ℕ → Reader Expr) (d : Reader Declaration) (s : Reader Statement) (word : Word)
    (t : Token) (ts : List Token)
    → begins_lead (lead word) ≡ true → (is_identifier word && is_at w ":" ts) ≡ false
    → statement_by w p d s (phrase word) t ts ≡ expression_statement w (p 13) (t ∷ ts)
evaluates_by w p d s Ordinary t ts h none = rw none refl
evaluates_by w p d s Typedef t ts h none = absurd (false≢true h)
evaluates_by w p d s Number t ts h none = refl
evaluates_by w p d s String t ts h none = refl
evaluates_by w p d s (Fixed text) t ts h none = rw h refl

pub evaluates_read : (w : Token → Word) (p : ℕ → Reader Expr) (d : Reader Declaration) (s : Reader Statement)
    (ts : List Token)
    → begins_operand w ts ≡ true → is_label w ts ≡ false → read_statement w p d s ts ≡ expression_statement w (p 13) ts
evaluates_read w p d s [] h none = absurd (false≢true h)
evaluates_read w p d s (t ∷ ts) h none = evaluates_by w p d s (w t) t ts h none

-- no statement is at a block's closing mark
pub no_statement_at_curly : (bytes : List ℕ) (typedefs : List (List ℕ)) (n : ℕ) (c : Token) (more : List Token)
    → word_of bytes typedefs c ≡ Fixed (codes "}") → statement_at bytes typedefs n (c ∷ more) ≡ None
no_statement_at_curly bytes typedefs zero c more h = refl
no_statement_at_curly bytes typedefs (suc n) c more h = rw h refl
