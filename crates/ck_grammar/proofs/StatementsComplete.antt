-- Statements and blocks are read as they are written (C99 6.8).
use Rattle.std.proofs.Common.{◌≡◌, ℕ, zero, suc, ◌≤◌, true, false, not, ◌&&◌, List, ◌∷◌, length, Option, Some, None}
use Rattle.std.proofs.Common.{refl, sym, ◌∙◌, arith}
use Rattle.std.specs.Prelude.{codes}
use Rattle.std.proofs.lemmas.Bool.{false≢true}
use Rattle.ck_base.specs.declared.tokens.Token.{Token}
use Rattle.ck_grammar.proofs.ExpressionsComplete.{all_read}
use Rattle.ck_grammar.proofs.DeclarationsComplete.{declaration_read, declaration_begins, declaration_no_label}
use Rattle.ck_grammar.proofs.Heads.{begins}
use Rattle.ck_grammar.proofs.Labels.{expression_no_label}
use Rattle.ck_grammar.proofs.Levels.{loosest}
use Rattle.ck_grammar.proofs.StatementsHeads.{leave_phrase, name_phrase, operand_no_specifiers, items_no_else}
use Rattle.ck_grammar.proofs.StatementsHeads.{no_declaration, evaluates_read, no_statement_at_curly}
use Rattle.ck_grammar.proofs.StatementsLengths.{longer_declaration, longer_statement}
use Rattle.ck_grammar.proofs.Stops.{StopsAt, Exact, at_round, at_colon, at_semicolon}
use Rattle.ck_grammar.specs.Fitting.{Fits}
use Rattle.ck_grammar.specs.Nesting.{nesting}
use Rattle.ck_grammar.specs.Readers.{Reader, is_at}
use Rattle.ck_grammar.specs.Reading.{expr_at}
use Rattle.ck_grammar.specs.ReadingExpressions.{begins_operand}
use Rattle.ck_grammar.specs.ReadingStatements.{is_label, maybe_expr, start, item_loop, read_statement, declaration_at}
use Rattle.ck_grammar.specs.ReadingStatements.{statement_at, body_at}
use Rattle.ck_grammar.specs.ReadingTypes.{begins_with}
use Rattle.ck_grammar.specs.Specified.{InBlock}
use Rattle.ck_grammar.specs.Statements.{Declaration, ForStart, Statement, BlockItems, StartEmpty, StartExpr}
use Rattle.ck_grammar.specs.Statements.{StartDeclaration, Block, Empty, ExpressionStatement, If, IfElse, Switch, While}
use Rattle.ck_grammar.specs.Statements.{Do, For, Case, Default, Label, Goto, Jump, Return, ReturnValue, NoBlockItems}
use Rattle.ck_grammar.specs.Statements.{DeclarationItem, StatementItem}
use Rattle.ck_grammar.specs.StatementsFitting.{FitsDeclaration, FitsStart, FitsMaybe, FitsStatement, FitsItems}
use Rattle.ck_grammar.specs.StatementsFitting.{ends_open}
use Rattle.ck_grammar.specs.StatementsNesting.{declaration_nesting, start_nesting, maybe_nesting, statement_nesting}
use Rattle.ck_grammar.specs.StatementsNesting.{items_nesting}
use Rattle.ck_grammar.specs.StatementsWritten.{declaration, for_start, maybe_written, statement, items}
use Rattle.ck_grammar.specs.Trees.{Expr}
use Rattle.ck_grammar.specs.Words.{begins_lead, Word, Fixed, begins_specifiers, lead, word_of}
use Rattle.ck_grammar.specs.Written.{written}

-- the reader reads declarations in a block that nest so deep, whatever is after them
abbrev ReadsDeclarations : List ℕ → List (List ℕ) → ℕ → Reader Declaration → Type 0
ReadsDeclarations bytes typedefs n d = (x : Declaration) (more : List Token) → FitsDeclaration bytes typedefs InBlock x
    → declaration_nesting x ≤ n → d (declaration x more) ≡ Some (x, more)

-- no `else` is after a statement that it would belong to
abbrev pub StopsStatement : (Token → Word) → Statement → List Token → Type 0
StopsStatement w s more = ends_open s ≡ true → is_at w "else" more ≡ false

-- the reader reads statements that nest so deep, before what ends them
abbrev ReadsStatements : List ℕ → List (List ℕ) → ℕ → Reader Statement → Type 0
ReadsStatements bytes typedefs n s = (x : Statement) (more : List Token) → FitsStatement bytes typedefs x
    → statement_nesting x ≤ n → StopsStatement (word_of bytes typedefs) x more → s (statement x more) ≡ Some (x, more)

abbrev NoneAtCurly : List ℕ → List (List ℕ) → Reader Statement → Type 0
NoneAtCurly bytes typedefs s = (c : Token) (more : List Token) → word_of bytes typedefs c ≡ Fixed (codes "}")
    → s (c ∷ more) ≡ None

whole_read : (w : Token → Word) (n : ℕ) (p : ℕ → Reader Expr) (e : Expr) (more : List Token) → Exact w n p → Fits w e
    → nesting e ≤ n → StopsAt w 13 more → p 13 (written e more) ≡ Some (e, more)
whole_read w n p e more exact h nests stop = exact 13 (omega arith) e more h nests (loosest w e h) stop

maybe_read : (w : Token → Word) (n : ℕ) (p : ℕ → Reader Expr) (e : Option Expr) (c : Token) (more : List Token)
    → Exact w n p → FitsMaybe w e → maybe_nesting e ≤ n → begins_lead (lead (w c)) ≡ false → StopsAt w 13 (c ∷ more)
    → maybe_expr w (p 13) (maybe_written e (c ∷ more)) ≡ Some (e, c ∷ more)
maybe_read w n p None c more exact h nests ends stop = rw ends refl
maybe_read w n p (Some e) c more exact h nests ends stop =
    rw (begins w e (c ∷ more) h, whole_read w n p e (c ∷ more) exact h nests stop) refl

start_read : (bytes : List ℕ) (typedefs : List (List ℕ)) (n : ℕ) (p : ℕ → Reader Expr) (d : Reader Declaration)
    (x : ForStart) (more : List Token)
    → Exact (word_of bytes typedefs) n p → ReadsDeclarations bytes typedefs n d → FitsStart bytes typedefs x
    → start_nesting x ≤ n
    → start (word_of bytes typedefs) (p 13) d (for_start x more) ≡ Some (x, more)
start_read bytes typedefs n p d (StartEmpty semicolon) more exact reads h nests = rw h refl
start_read bytes typedefs n p d (StartExpr e semicolon) more exact reads h nests =
    let begun : begins_operand (word_of bytes typedefs) (written e (semicolon ∷ more)) ≡ true =
    begins (word_of bytes typedefs) e (semicolon ∷ more) h.0 in
    let read : p 13 (written e (semicolon ∷ more)) ≡ Some (e, semicolon ∷ more) =
    whole_read (word_of bytes typedefs) n p e (semicolon ∷ more) exact h.0 nests
    (at_semicolon (word_of bytes typedefs) semicolon more 13 (omega arith) h.1) in
    rw (operand_no_specifiers (word_of bytes typedefs) (written e (semicolon ∷ more)) begun, begun, read, h.1) refl
start_read bytes typedefs n p d (StartDeclaration x) more exact reads h nests =
    rw (declaration_begins bytes typedefs InBlock x more h, reads x more h nests) refl

items_read : (bytes : List ℕ) (typedefs : List (List ℕ)) (n : ℕ) (d : Reader Declaration) (s : Reader Statement)
    (is : BlockItems) (c : Token) (more : List Token) (f : ℕ)
    → ReadsDeclarations bytes typedefs n d → ReadsStatements bytes typedefs n s → NoneAtCurly bytes typedefs s
    → FitsItems bytes typedefs is → items_nesting is ≤ n → word_of bytes typedefs c ≡ Fixed (codes "}")
    → length (items is (c ∷ more)) ≤ f
    → item_loop (word_of bytes typedefs) d s f (items is (c ∷ more)) ≡ (is, c ∷ more)
items_read bytes typedefs n d s NoBlockItems c more zero reads_d reads_s none h nests close fuel = refl
items_read bytes typedefs n d s NoBlockItems c more (suc f) reads_d reads_s none h nests close fuel =
    rw (close, none c more close) refl
items_read bytes typedefs n d s (DeclarationItem x rest) c more zero reads_d reads_s none h nests close fuel =
    absurd (omega (arith, fuel, longer_declaration x (items rest (c ∷ more))))
items_read bytes typedefs n d s (DeclarationItem x rest) c more (suc f) reads_d reads_s none h nests close fuel =
    let test : (begins_with (word_of bytes typedefs) begins_specifiers (declaration x (items rest (c ∷ more))) && not
    (is_label (word_of bytes typedefs) (declaration x (items rest (c ∷ more))))) ≡ true =
    rw (
      declaration_begins bytes typedefs InBlock x (items rest (c ∷ more)) h.0,
      declaration_no_label bytes typedefs InBlock x (items rest (c ∷ more)) h.0,
    ) refl in
    let read : d (declaration x (items rest (c ∷ more))) ≡ Some (x, items rest (c ∷ more)) =
    reads_d x (items rest (c ∷ more)) h.0 (omega (arith, nests)) in
    let again : item_loop (word_of bytes typedefs) d s f (items rest (c ∷ more)) ≡ (rest, c ∷ more) =
    items_read bytes typedefs n d s rest c more f reads_d reads_s none h.1 (omega (arith, nests)) close
    (omega (arith, fuel, longer_declaration x (items rest (c ∷ more)))) in
    rw (test, read, again) refl
items_read bytes typedefs n d s (StatementItem x rest) c more zero reads_d reads_s none h nests close fuel =
    absurd (omega (arith, fuel, longer_statement x (items rest (c ∷ more))))
items_read bytes typedefs n d s (StatementItem x rest) c more (suc f) reads_d reads_s none h nests close fuel =
    let read : s (statement x (items rest (c ∷ more))) ≡ Some (x, items rest (c ∷ more)) =
    reads_s x (items rest (c ∷ more)) h.0 (omega (arith, nests))
    (λ open_. items_no_else bytes typedefs rest c more h.1 close) in
    let again : item_loop (word_of bytes typedefs) d s f (items rest (c ∷ more)) ≡ (rest, c ∷ more) =
    items_read bytes typedefs n d s rest c more f reads_d reads_s none h.1 (omega (arith, nests)) close
    (omega (arith, fuel, longer_statement x (items rest (c ∷ more)))) in
    rw (no_declaration bytes typedefs x (items rest (c ∷ more)) h.0, read, again) refl

-- an expression statement is read
expression_statement_read : (bytes : List ℕ) (typedefs : List (List ℕ)) (n : ℕ) (p : ℕ → Reader Expr)
    (d : Reader Declaration)
    (r : Reader Statement) (e : Expr) (semicolon : Token) (more : List Token)
    → Exact (word_of bytes typedefs) n p → ReadsDeclarations bytes typedefs n d → ReadsStatements bytes typedefs n r
    → FitsStatement bytes typedefs (ExpressionStatement e semicolon)
    → statement_nesting (ExpressionStatement e semicolon) ≤ suc n
    → StopsStatement (word_of bytes typedefs) (ExpressionStatement e semicolon) more
    → read_statement (word_of bytes typedefs) p d r (statement (ExpressionStatement e semicolon) more)
    ≡ Some (ExpressionStatement e semicolon, more)
expression_statement_read bytes typedefs n p d r e semicolon more exact reads_d reads_s h nests stop =
    let w = word_of bytes typedefs in
    let read : p 13 (written e (semicolon ∷ more)) ≡ Some (e, semicolon ∷ more) =
    whole_read w n p e (semicolon ∷ more) exact h.0 (omega (arith, nests))
    (at_semicolon w semicolon more 13 (omega arith) h.1) in
    evaluates_read w p d r (written e (semicolon ∷ more)) (begins w e (semicolon ∷ more) h.0)
    (expression_no_label w e (semicolon ∷ more) h.0 (rw h.1 refl)) ∙ rw (read, h.1) refl

-- an `if` without `else` is read
if_read : (bytes : List ℕ) (typedefs : List (List ℕ)) (n : ℕ) (p : ℕ → Reader Expr) (d : Reader Declaration)
    (r : Reader Statement) (k o : Token) (e : Expr) (c : Token) (s : Statement) (more : List Token)
    → Exact (word_of bytes typedefs) n p → ReadsDeclarations bytes typedefs n d → ReadsStatements bytes typedefs n r
    → FitsStatement bytes typedefs (If k o e c s) → statement_nesting (If k o e c s) ≤ suc n
    → StopsStatement (word_of bytes typedefs) (If k o e c s) more
    → read_statement (word_of bytes typedefs) p d r (statement (If k o e c s) more) ≡ Some (If k o e c s, more)
if_read bytes typedefs n p d r k o e c s more exact reads_d reads_s h nests stop =
    let w = word_of bytes typedefs in
    let read : p 13 (written e (c ∷ statement s more)) ≡ Some (e, c ∷ statement s more) =
    whole_read w n p e (c ∷ statement s more) exact h.0.2 (omega (arith, nests))
    (at_round w c (statement s more) 13 (omega arith) h.0.3) in
    let then_ : r (statement s more) ≡ Some (s, more) = reads_s s more h.1 (omega (arith, nests))
    (λ open_. stop refl) in
    rw (h.0.0, h.0.1, read, h.0.3, then_, stop refl) refl

-- an `if` with its `else` is read
if_else_read : (bytes : List ℕ) (typedefs : List (List ℕ)) (n : ℕ) (p : ℕ → Reader Expr) (d : Reader Declaration)
    (r : Reader Statement) (k o : Token) (e : Expr) (c : Token) (s : Statement) (l : Token) (t : Statement)
    (more : List Token)
    → Exact (word_of bytes typedefs) n p → ReadsDeclarations bytes typedefs n d → ReadsStatements bytes typedefs n r
    → FitsStatement bytes typedefs (IfElse k o e c s l t) → statement_nesting (IfElse k o e c s l t) ≤ suc n
    → StopsStatement (word_of bytes typedefs) (IfElse k o e c s l t) more
    → read_statement (word_of bytes typedefs) p d r (statement (IfElse k o e c s l t) more)
    ≡ Some (IfElse k o e c s l t, more)
if_else_read bytes typedefs n p d r k o e c s l t more exact reads_d reads_s h nests stop =
    let w = word_of bytes typedefs in
    let read : p 13 (written e (c ∷ statement s (l ∷ statement t more))) ≡ Some
    (e, c ∷ statement s (l ∷ statement t more)) =
    whole_read w n p e (c ∷ statement s (l ∷ statement t more)) exact h.0.2 (omega (arith, nests))
    (at_round w c (statement s (l ∷ statement t more)) 13 (omega arith) h.0.3) in
    let then_ : r (statement s (l ∷ statement t more)) ≡ Some (s, l ∷ statement t more) =
    reads_s s (l ∷ statement t more) h.1 (omega (arith, nests)) (λ open_. absurd (false≢true (sym h.2 ∙ open_))) in
    let else_ : r (statement t more) ≡ Some (t, more) = reads_s t more h.4 (omega (arith, nests)) stop in
    rw (h.0.0, h.0.1, read, h.0.3, then_, h.3, else_) refl

-- a `switch` is read
switch_read : (bytes : List ℕ) (typedefs : List (List ℕ)) (n : ℕ) (p : ℕ → Reader Expr) (d : Reader Declaration)
    (r : Reader Statement) (k o : Token) (e : Expr) (c : Token) (s : Statement) (more : List Token)
    → Exact (word_of bytes typedefs) n p → ReadsDeclarations bytes typedefs n d → ReadsStatements bytes typedefs n r
    → FitsStatement bytes typedefs (Switch k o e c s) → statement_nesting (Switch k o e c s) ≤ suc n
    → StopsStatement (word_of bytes typedefs) (Switch k o e c s) more
    → read_statement (word_of bytes typedefs) p d r (statement (Switch k o e c s) more) ≡ Some (Switch k o e c s, more)
switch_read bytes typedefs n p d r k o e c s more exact reads_d reads_s h nests stop =
    let w = word_of bytes typedefs in
    let read : p 13 (written e (c ∷ statement s more)) ≡ Some (e, c ∷ statement s more) =
    whole_read w n p e (c ∷ statement s more) exact h.0.2 (omega (arith, nests))
    (at_round w c (statement s more) 13 (omega arith) h.0.3) in
    let body : r (statement s more) ≡ Some (s, more) = reads_s s more h.1 (omega (arith, nests)) stop in
    rw (h.0.0, h.0.1, read, h.0.3, body) refl

-- a `while` is read
while_read : (bytes : List ℕ) (typedefs : List (List ℕ)) (n : ℕ) (p : ℕ → Reader Expr) (d : Reader Declaration)
    (r : Reader Statement) (k o : Token) (e : Expr) (c : Token) (s : Statement) (more : List Token)
    → Exact (word_of bytes typedefs) n p → ReadsDeclarations bytes typedefs n d → ReadsStatements bytes typedefs n r
    → FitsStatement bytes typedefs (While k o e c s) → statement_nesting (While k o e c s) ≤ suc n
    → StopsStatement (word_of bytes typedefs) (While k o e c s) more
    → read_statement (word_of bytes typedefs) p d r (statement (While k o e c s) more) ≡ Some (While k o e c s, more)
while_read bytes typedefs n p d r k o e c s more exact reads_d reads_s h nests stop =
    let w = word_of bytes typedefs in
    let read : p 13 (written e (c ∷ statement s more)) ≡ Some (e, c ∷ statement s more) =
    whole_read w n p e (c ∷ statement s more) exact h.0.2 (omega (arith, nests))
    (at_round w c (statement s more) 13 (omega arith) h.0.3) in
    let body : r (statement s more) ≡ Some (s, more) = reads_s s more h.1 (omega (arith, nests)) stop in
    rw (h.0.0, h.0.1, read, h.0.3, body) refl

-- a `do` is read
do_read : (bytes : List ℕ) (typedefs : List (List ℕ)) (n : ℕ) (p : ℕ → Reader Expr) (d : Reader Declaration)
    (r : Reader Statement) (k : Token) (s : Statement) (l o : Token) (e : Expr) (c semicolon : Token)
    (more : List Token)
    → Exact (word_of bytes typedefs) n p → ReadsDeclarations bytes typedefs n d → ReadsStatements bytes typedefs n r
    → FitsStatement bytes typedefs (Do k s l o e c semicolon) → statement_nesting (Do k s l o e c semicolon) ≤ suc n
    → StopsStatement (word_of bytes typedefs) (Do k s l o e c semicolon) more
    → read_statement (word_of bytes typedefs) p d r (statement (Do k s l o e c semicolon) more)
    ≡ Some (Do k s l o e c semicolon, more)
do_read bytes typedefs n p d r k s l o e c semicolon more exact reads_d reads_s h nests stop =
    let w = word_of bytes typedefs in
    let body : r (statement s (l ∷ o ∷ written e (c ∷ semicolon ∷ more))) ≡ Some
    (s, l ∷ o ∷ written e (c ∷ semicolon ∷ more)) = reads_s s (l ∷ o ∷ written e (c ∷ semicolon ∷ more)) h.1
    (omega (arith, nests)) (λ open_. rw h.2.0 refl) in
    let read : p 13 (written e (c ∷ semicolon ∷ more)) ≡ Some (e, c ∷ semicolon ∷ more) =
    whole_read w n p e (c ∷ semicolon ∷ more) exact h.2.2 (omega (arith, nests))
    (at_round w c (semicolon ∷ more) 13 (omega arith) h.2.3) in
    rw (h.0, body, h.2.0, h.2.1, read, h.2.3, h.3) refl

-- a `for` is read
for_read : (bytes : List ℕ) (typedefs : List (List ℕ)) (n : ℕ) (p : ℕ → Reader Expr) (d : Reader Declaration)
    (r : Reader Statement) (k o : Token) (x : ForStart) (e : Option Expr) (semicolon : Token) (f : Option Expr)
    (c : Token) (s : Statement) (more : List Token)
    → Exact (word_of bytes typedefs) n p → ReadsDeclarations bytes typedefs n d → ReadsStatements bytes typedefs n r
    → FitsStatement bytes typedefs (For k o x e semicolon f c s)
    → statement_nesting (For k o x e semicolon f c s) ≤ suc n
    → StopsStatement (word_of bytes typedefs) (For k o x e semicolon f c s) more
    → read_statement (word_of bytes typedefs) p d r (statement (For k o x e semicolon f c s) more)
    ≡ Some (For k o x e semicolon f c s, more)
for_read bytes typedefs n p d r k o x e semicolon f c s more exact reads_d reads_s h nests stop =
    let w = word_of bytes typedefs in
    let first : start (word_of bytes typedefs) (p 13) d
    (for_start x (maybe_written e (semicolon ∷ maybe_written f (c ∷ statement s more)))) ≡ Some
    (x, maybe_written e (semicolon ∷ maybe_written f (c ∷ statement s more))) =
    start_read bytes typedefs n p d x (maybe_written e (semicolon ∷ maybe_written f (c ∷ statement s more))) exact
    reads_d h.2 (omega (arith, nests)) in
    let second : maybe_expr (word_of bytes typedefs) (p 13)
    (maybe_written e (semicolon ∷ maybe_written f (c ∷ statement s more))) ≡ Some
    (e, semicolon ∷ maybe_written f (c ∷ statement s more)) =
    maybe_read w n p e semicolon (maybe_written f (c ∷ statement s more)) exact h.3 (omega (arith, nests)) (rw h.4 refl)
    (at_semicolon w semicolon (maybe_written f (c ∷ statement s more)) 13 (omega arith) h.4) in
    let third : maybe_expr (word_of bytes typedefs) (p 13) (maybe_written f (c ∷ statement s more)) ≡ Some
    (f, c ∷ statement s more) =
    maybe_read w n p f c (statement s more) exact h.5 (omega (arith, nests)) (rw h.6 refl)
    (at_round w c (statement s more) 13 (omega arith) h.6) in
    let body : r (statement s more) ≡ Some (s, more) = reads_s s more h.7 (omega (arith, nests)) stop in
    rw (h.0, h.1, first, second, h.4, third, h.6, body) refl

-- a `case` is read
case_read : (bytes : List ℕ) (typedefs : List (List ℕ)) (n : ℕ) (p : ℕ → Reader Expr) (d : Reader Declaration)
    (r : Reader Statement) (k : Token) (e : Expr) (colon : Token) (s : Statement) (more : List Token)
    → Exact (word_of bytes typedefs) n p → ReadsDeclarations bytes typedefs n d → ReadsStatements bytes typedefs n r
    → FitsStatement bytes typedefs (Case k e colon s) → statement_nesting (Case k e colon s) ≤ suc n
    → StopsStatement (word_of bytes typedefs) (Case k e colon s) more
    → read_statement (word_of bytes typedefs) p d r (statement (Case k e colon s) more) ≡ Some (Case k e colon s, more)
case_read bytes typedefs n p d r k e colon s more exact reads_d reads_s h nests stop =
    let read : p 11 (written e (colon ∷ statement s more)) ≡ Some (e, colon ∷ statement s more) =
    exact 11 (omega arith) e (colon ∷ statement s more) h.1.0 (omega (arith, nests)) h.1.1
    (at_colon (word_of bytes typedefs) colon (statement s more) 11 (omega arith) h.2) in
    let body : r (statement s more) ≡ Some (s, more) = reads_s s more h.3 (omega (arith, nests)) stop in
    rw (h.0, read, h.2, body) refl

-- a `return` with a value is read
return_read : (bytes : List ℕ) (typedefs : List (List ℕ)) (n : ℕ) (p : ℕ → Reader Expr) (d : Reader Declaration)
    (r : Reader Statement) (k : Token) (e : Expr) (semicolon : Token) (more : List Token)
    → Exact (word_of bytes typedefs) n p → ReadsDeclarations bytes typedefs n d → ReadsStatements bytes typedefs n r
    → FitsStatement bytes typedefs (ReturnValue k e semicolon) → statement_nesting (ReturnValue k e semicolon) ≤ suc n
    → StopsStatement (word_of bytes typedefs) (ReturnValue k e semicolon) more
    → read_statement (word_of bytes typedefs) p d r (statement (ReturnValue k e semicolon) more)
    ≡ Some (ReturnValue k e semicolon, more)
return_read bytes typedefs n p d r k e semicolon more exact reads_d reads_s h nests stop =
    let w = word_of bytes typedefs in
    let read : p 13 (written e (semicolon ∷ more)) ≡ Some (e, semicolon ∷ more) =
    whole_read w n p e (semicolon ∷ more) exact h.1 (omega (arith, nests))
    (at_semicolon w semicolon more 13 (omega arith) h.2) in
    rw (h.0, begins w e (semicolon ∷ more) h.1, read, h.2) refl

-- a block is read
block_read : (bytes : List ℕ) (typedefs : List (List ℕ)) (n : ℕ) (p : ℕ → Reader Expr) (d : Reader Declaration)
    (r : Reader Statement) (o : Token) (is : BlockItems) (c : Token) (more : List Token)
    → Exact (word_of bytes typedefs) n p → ReadsDeclarations bytes typedefs n d → ReadsStatements bytes typedefs n r
    → NoneAtCurly bytes typedefs r
    → FitsStatement bytes typedefs (Block o is c) → statement_nesting (Block o is c) ≤ suc n
    → StopsStatement (word_of bytes typedefs) (Block o is c) more
    → read_statement (word_of bytes typedefs) p d r (statement (Block o is c) more) ≡ Some (Block o is c, more)
block_read bytes typedefs n p d r o is c more exact reads_d reads_s none h nests stop =
    let all : item_loop (word_of bytes typedefs) d r (length (items is (c ∷ more)))
    (items is (c ∷ more)) ≡ (is, c ∷ more) = items_read bytes typedefs n d r is c more
    (length (items is (c ∷ more))) reads_d reads_s none h.1 (omega (arith, nests)) h.2 (omega arith) in
    rw (h.0, all, h.2) refl

statement_by_read : (bytes : List ℕ) (typedefs : List (List ℕ)) (n : ℕ) (p : ℕ → Reader Expr) (d : Reader Declaration)
    (r : Reader Statement) (x : Statement) (more : List Token)
    → Exact (word_of bytes typedefs) n p → ReadsDeclarations bytes typedefs n d → ReadsStatements bytes typedefs n r
    → NoneAtCurly bytes typedefs r
    → FitsStatement bytes typedefs x → statement_nesting x ≤ suc n → StopsStatement (word_of bytes typedefs) x more
    → read_statement (word_of bytes typedefs) p d r (statement x more) ≡ Some (x, more)
statement_by_read bytes typedefs n p d r (Block o is c) more exact reads_d reads_s none h nests stop =
    block_read bytes typedefs n p d r o is c more exact reads_d reads_s none h nests stop
statement_by_read bytes typedefs n p d r (Empty semicolon) more exact reads_d reads_s none h nests stop = rw h refl
statement_by_read bytes typedefs n p d r (ExpressionStatement e end) more exact reads_d reads_s none h nests stop =
    expression_statement_read bytes typedefs n p d r e end more exact reads_d reads_s h nests stop
statement_by_read bytes typedefs n p d r (If k o e c s) more exact reads_d reads_s none h nests stop =
    if_read bytes typedefs n p d r k o e c s more exact reads_d reads_s h nests stop
statement_by_read bytes typedefs n p d r (IfElse k o e c s l t) more exact reads_d reads_s none h nests stop =
    if_else_read bytes typedefs n p d r k o e c s l t more exact reads_d reads_s h nests stop
statement_by_read bytes typedefs n p d r (Switch k o e c s) more exact reads_d reads_s none h nests stop =
    switch_read bytes typedefs n p d r k o e c s more exact reads_d reads_s h nests stop
statement_by_read bytes typedefs n p d r (While k o e c s) more exact reads_d reads_s none h nests stop =
    while_read bytes typedefs n p d r k o e c s more exact reads_d reads_s h nests stop
statement_by_read bytes typedefs n p d r (Do k s l o e c semicolon) more exact reads_d reads_s none h nests stop =
    do_read bytes typedefs n p d r k s l o e c semicolon more exact reads_d reads_s h nests stop
statement_by_read bytes typedefs n p d r (For k o x e semicolon f c s) more exact reads_d reads_s none h nests stop =
    for_read bytes typedefs n p d r k o x e semicolon f c s more exact reads_d reads_s h nests stop
statement_by_read bytes typedefs n p d r (Case k e colon s) more exact reads_d reads_s none h nests stop =
    case_read bytes typedefs n p d r k e colon s more exact reads_d reads_s h nests stop
statement_by_read bytes typedefs n p d r (Default k colon s) more exact reads_d reads_s none h nests stop =
    let body : r (statement s more) ≡ Some (s, more) = reads_s s more h.2 (omega (arith, nests)) stop in
    rw (h.0, h.1, body) refl
statement_by_read bytes typedefs n p d r (Label t colon s) more exact reads_d reads_s none h nests stop =
    let body : r (statement s more) ≡ Some (s, more) = reads_s s more h.2 (omega (arith, nests)) stop in
    rw (name_phrase (word_of bytes typedefs t) h.0, h.1, body) refl
statement_by_read bytes typedefs n p d r (Goto k t semicolon) more exact reads_d reads_s none h nests stop =
    rw (h.0, h.1, h.2) refl
statement_by_read bytes typedefs n p d r (Jump k semicolon) more exact reads_d reads_s none h nests stop =
    rw (leave_phrase (word_of bytes typedefs k) h.0, h.1) refl
statement_by_read bytes typedefs n p d r (Return k semicolon) more exact reads_d reads_s none h nests stop =
    rw (h.0, h.1) refl
statement_by_read bytes typedefs n p d r (ReturnValue k e semicolon) more exact reads_d reads_s none h nests stop =
    return_read bytes typedefs n p d r k e semicolon more exact reads_d reads_s h nests stop

no_statement : (s : Statement) → statement_nesting s ≤ 0 → ⊥
no_statement (Block o is c) h = omega (arith, h)
no_statement _ h = omega (arith, h)

-- a statement is read, before tokens that are no `else` that would belong to it
pub statement_read : (bytes : List ℕ) (typedefs : List (List ℕ)) (n : ℕ) (x : Statement) (more : List Token)
    → FitsStatement bytes typedefs x → statement_nesting x ≤ n → StopsStatement (word_of bytes typedefs) x more
    → statement_at bytes typedefs n (statement x more) ≡ Some (x, more)
statement_read bytes typedefs zero x more h nests stop = absurd (no_statement x nests)
statement_read bytes typedefs (suc n) x more h nests stop =
    statement_by_read bytes typedefs n (expr_at (word_of bytes typedefs) n) (declaration_at bytes typedefs n InBlock)
    (statement_at bytes typedefs n) x more (all_read (word_of bytes typedefs) n).exprs
    (declaration_read bytes typedefs n InBlock) (statement_read bytes typedefs n)
    (no_statement_at_curly bytes typedefs n) h nests stop

-- a body is read up to its closing mark
pub body_read : (bytes : List ℕ) (typedefs : List (List ℕ)) (n : ℕ) (is : BlockItems) (c : Token) (more : List Token)
    → FitsItems bytes typedefs is → items_nesting is ≤ n → word_of bytes typedefs c ≡ Fixed (codes "}")
    → body_at bytes typedefs n (items is (c ∷ more)) ≡ (is, c ∷ more)
body_read bytes typedefs n is c more h nests close =
    items_read bytes typedefs n (declaration_at bytes typedefs n InBlock) (statement_at bytes typedefs n) is c more
    (length (items is (c ∷ more)))
    (declaration_read bytes typedefs n InBlock) (statement_read bytes typedefs n)
    (no_statement_at_curly bytes typedefs n) h nests close (omega arith)
