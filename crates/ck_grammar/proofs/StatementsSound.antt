-- What the readers of statements and files read is spelled so.
use Rattle.std.proofs.Common.{◌≡◌, ℕ, zero, suc, ◌≤◌, Bool, true, false, ◌&&◌, not, cond, List, [], ◌∷◌, length, Option}
use Rattle.std.proofs.Common.{Some, None, refl, sym, ap, ◌∙◌, arith}
use Rattle.std.specs.Prelude.{codes}
use Rattle.std.proofs.lemmas.Bool.{false≢true}
use Rattle.ck_base.specs.declared.tokens.Token.{Token}
use Rattle.ck_grammar.proofs.ReadersSound.{all_sound}
use Rattle.ck_grammar.proofs.ExpressionsSound.{SoundExprs, GoodExpr, IsExpr}
use Rattle.ck_grammar.proofs.InitialisersSound.{GoodDeclaration, IsDeclaration, declares_sound, bare_sound}
use Rattle.ck_grammar.proofs.InitialisersSound.{declaration_sound}
use Rattle.ck_grammar.proofs.ReaderAnswers.{OnRead, IsSpelled, SoundReader, SoundLoop, on_then, by_if, on_else, on_mark}
use Rattle.ck_grammar.proofs.ReaderAnswers.{on_identifier, on_guard}
use Rattle.ck_grammar.proofs.TypesSound.{IsSpecifiers, IsDeclarator, not_true}
use Rattle.ck_grammar.proofs.TypeStops.{and_left, and_right}
use Rattle.ck_grammar.proofs.WordsTold.{PhraseTells, phrase_tells}
use Rattle.ck_grammar.specs.Fitting.{NewName}
use Rattle.ck_grammar.specs.Phrases.{Phrase, NamePhrase, BlockPhrase, ClosePhrase, EmptyPhrase, IfPhrase, ElsePhrase}
use Rattle.ck_grammar.specs.Phrases.{SwitchPhrase, WhilePhrase, DoPhrase, ForPhrase, CasePhrase, DefaultPhrase}
use Rattle.ck_grammar.specs.Phrases.{GotoPhrase, JumpPhrase, ReturnPhrase, OtherPhrase, phrase}
use Rattle.ck_grammar.specs.Readers.{Read, Reader, ◌>>=◌, mark, is_at}
use Rattle.ck_grammar.specs.Reading.{expr_at, specifiers_at, declarator_at}
use Rattle.ck_grammar.specs.ReadingExpressions.{begins_operand}
use Rattle.ck_grammar.specs.ReadingStatements.{declares, declaration_at, maybe_expr, start, is_label, item, item_loop}
use Rattle.ck_grammar.specs.ReadingStatements.{controlling, expression_statement, statement_by, read_statement}
use Rattle.ck_grammar.specs.ReadingStatements.{statement_at, is_function, body_at, defines, external_at, is_empty}
use Rattle.ck_grammar.specs.ReadingStatements.{file_loop}
use Rattle.ck_grammar.specs.ReadingTypes.{begins_with}
use Rattle.ck_grammar.specs.Specified.{InBlock, InFile}
use Rattle.ck_grammar.specs.Statements.{Declaration, ForStart, Statement, BlockItems, External, If, IfElse}
use Rattle.ck_grammar.specs.Statements.{NoBlockItems}
use Rattle.ck_grammar.specs.StatementsFitting.{IsJump, FitsStart, FitsMaybe, ends_open, FitsStatement, FitsItems}
use Rattle.ck_grammar.specs.StatementsFitting.{is_typedef, shape, Shape, JustName, FunctionShape, OtherShape}
use Rattle.ck_grammar.specs.StatementsFitting.{FitsExternal, external_after, FitsFile}
use Rattle.ck_grammar.specs.StatementsNesting.{start_nesting, maybe_nesting, statement_nesting, items_nesting}
use Rattle.ck_grammar.specs.StatementsNesting.{external_nesting, file_nesting}
use Rattle.ck_grammar.specs.StatementsWritten.{for_start, maybe_written, statement, items, external, file, declaration}
use Rattle.ck_grammar.specs.Trees.{Expr, Specifiers, Declarator}
use Rattle.ck_grammar.specs.Words.{Word, Fixed, is_identifier, begins_specifiers, word_of}
use Rattle.ck_grammar.specs.Written.{written}

-- what the readers of each kind answer
abbrev GoodStart : List ℕ → List (List ℕ) → ℕ → ForStart → Type 0
GoodStart bytes typedefs n x = FitsStart bytes typedefs x × (start_nesting x ≤ n)

abbrev GoodMaybe : (Token → Word) → ℕ → Option Expr → Type 0
GoodMaybe w n e = FitsMaybe w e × (maybe_nesting e ≤ n)

abbrev pub GoodStatement : List ℕ → List (List ℕ) → ℕ → Statement → Type 0
GoodStatement bytes typedefs n s = FitsStatement bytes typedefs s × (statement_nesting s ≤ n)

abbrev pub GoodItems : List ℕ → List (List ℕ) → ℕ → BlockItems → Type 0
GoodItems bytes typedefs n is = FitsItems bytes typedefs is × (items_nesting is ≤ n)

abbrev pub GoodExternal : List ℕ → List (List ℕ) → ℕ → External → Type 0
GoodExternal bytes typedefs n x = FitsExternal bytes typedefs x × (external_nesting x ≤ n)

-- that one of these is spelled at the front of the tokens
abbrev IsStart : List ℕ → List (List ℕ) → ℕ → List Token → ForStart → List Token → Type 0
IsStart bytes typedefs n ts = IsSpelled (GoodStart bytes typedefs n) for_start ts

abbrev IsMaybe : (Token → Word) → ℕ → List Token → Option Expr → List Token → Type 0
IsMaybe w n ts = IsSpelled (GoodMaybe w n) maybe_written ts

abbrev pub IsItems : List ℕ → List (List ℕ) → ℕ → List Token → BlockItems → List Token → Type 0
IsItems bytes typedefs n ts = IsSpelled (GoodItems bytes typedefs n) items ts

abbrev pub IsExternal : List ℕ → List (List ℕ) → ℕ → List Token → External → List Token → Type 0
IsExternal bytes typedefs n ts = IsSpelled (GoodExternal bytes typedefs n) external ts

-- and no `else` is after a statement that would take it
abbrev pub IsStatement : List ℕ → List (List ℕ) → ℕ → List Token → Statement → List Token → Type 0
IsStatement bytes typedefs n ts s r = IsSpelled (GoodStatement bytes typedefs n) statement ts s r
    × (ends_open s ≡ true → is_at (word_of bytes typedefs) "else" r ≡ false)

abbrev pub SoundStatements : List ℕ → List (List ℕ) → ℕ → Reader Statement → Type 0
SoundStatements bytes typedefs n s = (ts : List Token) → OnRead (IsStatement bytes typedefs n ts) (s ts)

closed : {P : Type 0} → false ≡ true → P
closed h = absurd (false≢true h)

not_open : (a b : Bool) → (a ≡ true → b ≡ false) → b ≡ true → a ≡ false
not_open true b h e = absurd (false≢true (sym (h refl) ∙ e))
not_open false b h e = refl

maybe_sound : (w : Token → Word) (p : Reader Expr) (n : ℕ) → SoundReader (GoodExpr w n 13) written p
    → SoundReader (GoodMaybe w n) maybe_written (maybe_expr w p)
maybe_sound w p n sound ts =
    by_if (OnRead (IsMaybe w n ts)) (begins_operand w ts) _ _
    (λ _. on_then (IsExpr w n 13 ts) (IsMaybe w n ts) (p ts) _ (sound ts)
    (λ e r is. record { tokens_are = is.tokens_are; good = (is.good.0, is.good.1) }))
    (λ _. record { tokens_are = refl; good = (tt, omega arith) })

start_sound : (bytes : List ℕ) (typedefs : List (List ℕ)) (p : Reader Expr) (d : Reader Declaration) (n : ℕ)
    → SoundReader (GoodExpr (word_of bytes typedefs) n 13) written p → SoundReader
    (GoodDeclaration bytes typedefs n InBlock) declaration d → SoundReader (GoodStart bytes typedefs n) for_start
    (start (word_of bytes typedefs) p d)
start_sound bytes typedefs p d n sound_p sound_d ts =
    by_if (OnRead (IsStart bytes typedefs n ts)) (begins_with (word_of bytes typedefs) begins_specifiers ts) _ _
    (λ _. on_then (IsDeclaration bytes typedefs n InBlock ts) (IsStart bytes typedefs n ts) (d ts) _ (sound_d ts)
    (λ x r is. record { tokens_are = is.tokens_are; good = (is.good.0, is.good.1) }))
    (λ _. by_if (OnRead (IsStart bytes typedefs n ts)) (begins_operand (word_of bytes typedefs) ts) _ _
    (λ _. on_then (IsExpr (word_of bytes typedefs) n 13 ts) (IsStart bytes typedefs n ts) (p ts) _ (sound_p ts)
    (λ e r is. on_mark (IsStart bytes typedefs n ts) (word_of bytes typedefs) ";" r _
    (λ semicolon r' at ended.
    record { tokens_are = rw (at, is.tokens_are) refl; good = ((is.good.0, ended), is.good.1) })))
    (λ _. on_mark (IsStart bytes typedefs n ts) (word_of bytes typedefs) ";" ts _
    (λ semicolon r at ended. record { tokens_are = at; good = (ended, omega arith) })))

item_sound : (bytes : List ℕ) (typedefs : List (List ℕ)) (d : Reader Declaration) (s : Reader Statement)
    (go : List Token → BlockItems × List Token) (n : ℕ) (ts : List Token)
    → SoundReader (GoodDeclaration bytes typedefs n InBlock) declaration d → SoundStatements bytes typedefs n s
    → SoundLoop (GoodItems bytes typedefs n) items go
    → OnRead (IsItems bytes typedefs n ts) (item (word_of bytes typedefs) d s go ts)
item_sound bytes typedefs d s go n ts sound_d sound_s again =
    by_if (OnRead (IsItems bytes typedefs n ts))
    (begins_with (word_of bytes typedefs) begins_specifiers ts && not (is_label (word_of bytes typedefs) ts)) _ _
    (λ _. on_then (IsDeclaration bytes typedefs n InBlock ts) (IsItems bytes typedefs n ts) (d ts) _ (sound_d ts)
    (λ x r is.
    let later = again r in
    record {
      tokens_are = rw (later.tokens_are, is.tokens_are) refl;
      good =
          ((is.good.0, later.good.0), omega (arith, is.good.1, later.good.1));
    }))
    (λ _. on_then (IsStatement bytes typedefs n ts) (IsItems bytes typedefs n ts) (s ts) _ (sound_s ts) (λ x r is.
    let later = again r in
    record {
      tokens_are = rw (later.tokens_are, is.0.tokens_are) refl;
      good =
          ((is.0.good.0, later.good.0), omega (arith, is.0.good.1, later.good.1));
    }))

no_items : (bytes : List ℕ) (typedefs : List (List ℕ)) (n : ℕ) (ts : List Token)
    → IsItems bytes typedefs n ts NoBlockItems ts
no_items bytes typedefs n ts = record { tokens_are = refl; good = (tt, omega arith) }

item_loop_sound : (bytes : List ℕ) (typedefs : List (List ℕ)) (d : Reader Declaration) (s : Reader Statement) (n f : ℕ)
    → SoundReader (GoodDeclaration bytes typedefs n InBlock) declaration d → SoundStatements bytes typedefs n s
    → SoundLoop (GoodItems bytes typedefs n) items (item_loop (word_of bytes typedefs) d s f)
item_loop_sound bytes typedefs d s n zero sound_d sound_s ts = no_items bytes typedefs n ts
item_loop_sound bytes typedefs d s n (suc f) sound_d sound_s ts =
    on_else (IsItems bytes typedefs n ts) (NoBlockItems, ts)
    (item (word_of bytes typedefs) d s (item_loop (word_of bytes typedefs) d s f) ts) (no_items bytes typedefs n ts)
    (item_sound bytes typedefs d s (item_loop (word_of bytes typedefs) d s f) n ts sound_d sound_s
    (item_loop_sound bytes typedefs d s n f sound_d sound_s))

abbrev IsControl : (Token → Word) → ℕ → List Token → Token × Expr × Token → List Token → Type 0
IsControl w n ts x r =
    (w x.0 ≡ Fixed (codes "(")) × GoodExpr w n 13 x.1 × (w x.2 ≡ Fixed (codes ")"))
    × ((x.0 ∷ written x.1 (x.2 ∷ r)) ≡ ts)

control_sound : (w : Token → Word) (n : ℕ) (p : Reader Expr) (ts : List Token)
    → SoundReader (GoodExpr w n 13) written p → OnRead (IsControl w n ts) (controlling w p ts)
control_sound w n p ts sound =
    on_mark (IsControl w n ts) w "(" ts _ (λ o r at open_.
    on_then (IsExpr w n 13 r) (IsControl w n ts) (p r) _ (sound r) (λ e r' is.
    on_mark (IsControl w n ts) w ")" r' _ (λ c r'' at' close.
    (open_, is.good, close, rw (at', is.tokens_are, at) refl))))

in_test_sound : {B : Type 0} (Q : B → List Token → Type 0) (w : Token → Word) (n : ℕ) (p : Reader Expr)
    (ts : List Token) (go : (Token × Expr × Token) × List Token → Read B)
    → SoundReader (GoodExpr w n 13) written p
    → ((o : Token) (e : Expr) (c : Token) (r : List Token) → w o ≡ Fixed (codes "(") → GoodExpr w n 13 e
    → w c ≡ Fixed (codes ")") → (o ∷ written e (c ∷ r)) ≡ ts → OnRead Q (go ((o, e, c), r)))
    → OnRead Q (controlling w p ts >>= go)
in_test_sound Q w n p ts go sound next =
    on_then (IsControl w n ts) Q (controlling w p ts) go (control_sound w n p ts sound)
    (λ x r is. next x.0 x.1 x.2 r is.0 is.1 is.2 is.3)

evaluates_sound : (bytes : List ℕ) (typedefs : List (List ℕ)) (p : Reader Expr) (n : ℕ) (ts : List Token)
    → SoundReader (GoodExpr (word_of bytes typedefs) n 13) written p
    → OnRead (IsStatement bytes typedefs (suc n) ts) (expression_statement (word_of bytes typedefs) p ts)
evaluates_sound bytes typedefs p n ts sound =
    on_then (IsExpr (word_of bytes typedefs) n 13 ts) (IsStatement bytes typedefs (suc n) ts) (p ts) _ (sound ts)
    (λ e r is. on_mark (IsStatement bytes typedefs (suc n) ts) (word_of bytes typedefs) ";" r _
    (λ semicolon r' at ended. (
      record { tokens_are = rw (at, is.tokens_are) refl; good = ((is.good.0, ended), omega (arith, is.good.1)) },
      closed,
    )))

-- after the test of an `if` and its statement
else_sound : (bytes : List ℕ) (typedefs : List (List ℕ)) (s : Reader Statement) (n : ℕ) (k o c : Token) (e : Expr)
    (x : Statement) (ts r r' : List Token)
    → word_of bytes typedefs k ≡ Fixed (codes "if") → word_of bytes typedefs o ≡ Fixed (codes "(")
    → GoodExpr (word_of bytes typedefs) n 13 e → word_of bytes typedefs c ≡ Fixed (codes ")")
    → (o ∷ written e (c ∷ r)) ≡ ts
    → IsStatement bytes typedefs n r x r' → SoundStatements bytes typedefs n s
    → OnRead (IsStatement bytes typedefs (suc n) (k ∷ ts))
    (cond (is_at (word_of bytes typedefs) "else" r')
    (mark (word_of bytes typedefs) "else" r' >>= λ (l, r''). s r'' >>= λ (y, r3). Some (IfElse k o e c x l y, r3))
    (Some (If k o e c x, r')))
else_sound bytes typedefs s n k o c e x ts r r' told open_ good close same first sound =
    by_if (OnRead (IsStatement bytes typedefs (suc n) (k ∷ ts))) (is_at (word_of bytes typedefs) "else" r') _ _
    (λ h. on_mark (IsStatement bytes typedefs (suc n) (k ∷ ts)) (word_of bytes typedefs) "else" r' _
    (λ l r'' at else_. on_then (IsStatement bytes typedefs n r'') (IsStatement bytes typedefs (suc n) (k ∷ ts))
    (s r'') _ (sound r'') (λ y r3 second. (
      record {
        tokens_are = rw (second.0.tokens_are, at, first.0.tokens_are, same) refl;
        good = (
          (
            (told, open_, good.0, close),
            first.0.good.0,
            not_open (ends_open x)
                (is_at (word_of bytes typedefs) "else" r') first.1 h,
            else_,
            second.0.good.0,
          ),
          omega (arith, good.1, first.0.good.1, second.0.good.1),
        );
      },
      second.1,
    ))))
    (λ h. (
      record {
        tokens_are = rw (first.0.tokens_are, same) refl;
        good =
            (((told, open_, good.0, close), first.0.good.0), omega (arith, good.1, first.0.good.1));
      },
      λ _. h,
    ))

name_sound : (bytes : List ℕ) (typedefs : List (List ℕ)) (p : ℕ → Reader Expr) (d : Reader Declaration)
    (s : Reader Statement) (n : ℕ) (t : Token) (ts : List Token)
    → is_identifier (word_of bytes typedefs t) ≡ true → SoundExprs (word_of bytes typedefs) n p
    → SoundReader (GoodDeclaration bytes typedefs n InBlock) declaration d → SoundStatements bytes typedefs n s
    → OnRead (IsStatement bytes typedefs (suc n) (t ∷ ts))
    (statement_by (word_of bytes typedefs) p d s NamePhrase t ts)
name_sound bytes typedefs p d s n t ts told sound_p sound_d sound_s =
    by_if (OnRead (IsStatement bytes typedefs (suc n) (t ∷ ts))) (is_at (word_of bytes typedefs) ":" ts) _ _
    (λ _. on_mark (IsStatement bytes typedefs (suc n) (t ∷ ts)) (word_of bytes typedefs) ":" ts _
    (λ colon r at told'. on_then (IsStatement bytes typedefs n r) (IsStatement bytes typedefs (suc n) (t ∷ ts))
    (s r) _ (sound_s r) (λ x r' is. (
      record {
        tokens_are = rw (is.0.tokens_are, at) refl;
        good =
            ((told, told', is.0.good.0), omega (arith, is.0.good.1));
      },
      is.1,
    ))))
    (λ _. evaluates_sound bytes typedefs (p 13) n (t ∷ ts) (sound_p 13 (omega arith)))

block_sound : (bytes : List ℕ) (typedefs : List (List ℕ)) (p : ℕ → Reader Expr) (d : Reader Declaration)
    (s : Reader Statement) (n : ℕ) (t : Token) (ts : List Token)
    → word_of bytes typedefs t ≡ Fixed (codes "{") → SoundExprs (word_of bytes typedefs) n p
    → SoundReader (GoodDeclaration bytes typedefs n InBlock) declaration d → SoundStatements bytes typedefs n s
    → OnRead (IsStatement bytes typedefs (suc n) (t ∷ ts))
    (statement_by (word_of bytes typedefs) p d s BlockPhrase t ts)
block_sound bytes typedefs p d s n t ts told sound_p sound_d sound_s =
    let all = item_loop_sound bytes typedefs d s n (length ts) sound_d sound_s ts in
    on_mark (IsStatement bytes typedefs (suc n) (t ∷ ts)) (word_of bytes typedefs) "}"
    (item_loop (word_of bytes typedefs) d s (length ts) ts).1 _ (λ c r at close. (
      record {
        tokens_are = rw (at, all.tokens_are) refl;
        good =
            ((told, all.good.0, close), omega (arith, all.good.1));
      },
      closed,
    ))

if_sound : (bytes : List ℕ) (typedefs : List (List ℕ)) (p : ℕ → Reader Expr) (d : Reader Declaration)
    (s : Reader Statement) (n : ℕ) (t : Token) (ts : List Token)
    → word_of bytes typedefs t ≡ Fixed (codes "if") → SoundExprs (word_of bytes typedefs) n p
    → SoundReader (GoodDeclaration bytes typedefs n InBlock) declaration d → SoundStatements bytes typedefs n s
    → OnRead (IsStatement bytes typedefs (suc n) (t ∷ ts))
    (statement_by (word_of bytes typedefs) p d s IfPhrase t ts)
if_sound bytes typedefs p d s n t ts told sound_p sound_d sound_s =
    in_test_sound (IsStatement bytes typedefs (suc n) (t ∷ ts)) (word_of bytes typedefs) n (p 13) ts _
    (sound_p 13 (omega arith))
    (λ o e c r open_ good close same. on_then (IsStatement bytes typedefs n r)
    (IsStatement bytes typedefs (suc n) (t ∷ ts)) (s r) _ (sound_s r) (λ x r' first.
    else_sound bytes typedefs s n t o c e x ts r r' told open_ good close same first sound_s))

switch_sound : (bytes : List ℕ) (typedefs : List (List ℕ)) (p : ℕ → Reader Expr) (d : Reader Declaration)
    (s : Reader Statement) (n : ℕ) (t : Token) (ts : List Token)
    → word_of bytes typedefs t ≡ Fixed (codes "switch") → SoundExprs (word_of bytes typedefs) n p
    → SoundReader (GoodDeclaration bytes typedefs n InBlock) declaration d → SoundStatements bytes typedefs n s
    → OnRead (IsStatement bytes typedefs (suc n) (t ∷ ts))
    (statement_by (word_of bytes typedefs) p d s SwitchPhrase t ts)
switch_sound bytes typedefs p d s n t ts told sound_p sound_d sound_s =
    in_test_sound (IsStatement bytes typedefs (suc n) (t ∷ ts)) (word_of bytes typedefs) n (p 13) ts _
    (sound_p 13 (omega arith))
    (λ o e c r open_ good close same. on_then (IsStatement bytes typedefs n r)
    (IsStatement bytes typedefs (suc n) (t ∷ ts)) (s r) _ (sound_s r) (λ x r' is. (
      record {
        tokens_are = rw (is.0.tokens_are, same) refl;
        good =
            (((told, open_, good.0, close), is.0.good.0), omega (arith, good.1, is.0.good.1));
      },
      is.1,
    )))

while_sound : (bytes : List ℕ) (typedefs : List (List ℕ)) (p : ℕ → Reader Expr) (d : Reader Declaration)
    (s : Reader Statement) (n : ℕ) (t : Token) (ts : List Token)
    → word_of bytes typedefs t ≡ Fixed (codes "while") → SoundExprs (word_of bytes typedefs) n p
    → SoundReader (GoodDeclaration bytes typedefs n InBlock) declaration d → SoundStatements bytes typedefs n s
    → OnRead (IsStatement bytes typedefs (suc n) (t ∷ ts))
    (statement_by (word_of bytes typedefs) p d s WhilePhrase t ts)
while_sound bytes typedefs p d s n t ts told sound_p sound_d sound_s =
    in_test_sound (IsStatement bytes typedefs (suc n) (t ∷ ts)) (word_of bytes typedefs) n (p 13) ts _
    (sound_p 13 (omega arith))
    (λ o e c r open_ good close same. on_then (IsStatement bytes typedefs n r)
    (IsStatement bytes typedefs (suc n) (t ∷ ts)) (s r) _ (sound_s r) (λ x r' is. (
      record {
        tokens_are = rw (is.0.tokens_are, same) refl;
        good =
            (((told, open_, good.0, close), is.0.good.0), omega (arith, good.1, is.0.good.1));
      },
      is.1,
    )))

do_sound : (bytes : List ℕ) (typedefs : List (List ℕ)) (p : ℕ → Reader Expr) (d : Reader Declaration)
    (s : Reader Statement) (n : ℕ) (t : Token) (ts : List Token)
    → word_of bytes typedefs t ≡ Fixed (codes "do") → SoundExprs (word_of bytes typedefs) n p
    → SoundReader (GoodDeclaration bytes typedefs n InBlock) declaration d → SoundStatements bytes typedefs n s
    → OnRead (IsStatement bytes typedefs (suc n) (t ∷ ts))
    (statement_by (word_of bytes typedefs) p d s DoPhrase t ts)
do_sound bytes typedefs p d s n t ts told sound_p sound_d sound_s =
    on_then (IsStatement bytes typedefs n ts) (IsStatement bytes typedefs (suc n) (t ∷ ts)) (s ts) _ (sound_s ts)
    (λ x r is. on_mark (IsStatement bytes typedefs (suc n) (t ∷ ts)) (word_of bytes typedefs) "while" r _
    (λ l r' at again. in_test_sound (IsStatement bytes typedefs (suc n) (t ∷ ts)) (word_of bytes typedefs) n
    (p 13) r' _ (sound_p 13 (omega arith))
    (λ o e c r'' open_ good close same. on_mark (IsStatement bytes typedefs (suc n) (t ∷ ts))
    (word_of bytes typedefs) ";" r'' _ (λ semicolon r3 at' ended. (
      record {
        tokens_are = rw (at', same, at, is.0.tokens_are) refl;
        good =
            ((told, is.0.good.0, (again, open_, good.0, close), ended), omega (arith, is.0.good.1, good.1));
      },
      closed,
    )))))

for_sound : (bytes : List ℕ) (typedefs : List (List ℕ)) (p : ℕ → Reader Expr) (d : Reader Declaration)
    (s : Reader Statement) (n : ℕ) (t : Token) (ts : List Token)
    → word_of bytes typedefs t ≡ Fixed (codes "for") → SoundExprs (word_of bytes typedefs) n p
    → SoundReader (GoodDeclaration bytes typedefs n InBlock) declaration d → SoundStatements bytes typedefs n s
    → OnRead (IsStatement bytes typedefs (suc n) (t ∷ ts))
    (statement_by (word_of bytes typedefs) p d s ForPhrase t ts)
for_sound bytes typedefs p d s n t ts told sound_p sound_d sound_s =
    on_mark (IsStatement bytes typedefs (suc n) (t ∷ ts)) (word_of bytes typedefs) "(" ts _
    (λ o r at open_. on_then (IsStart bytes typedefs n r) (IsStatement bytes typedefs (suc n) (t ∷ ts))
    (start (word_of bytes typedefs) (p 13) d r) _
    (start_sound bytes typedefs (p 13) d n (sound_p 13 (omega arith)) sound_d r) (λ i r' first.
    on_then (IsMaybe (word_of bytes typedefs) n r') (IsStatement bytes typedefs (suc n) (t ∷ ts))
    (maybe_expr (word_of bytes typedefs) (p 13) r') _
    (maybe_sound (word_of bytes typedefs) (p 13) n (sound_p 13 (omega arith)) r')
    (λ e r'' second. on_mark (IsStatement bytes typedefs (suc n) (t ∷ ts)) (word_of bytes typedefs)
    ";" r'' _ (λ semicolon r3 at' ended.
    on_then (IsMaybe (word_of bytes typedefs) n r3) (IsStatement bytes typedefs (suc n) (t ∷ ts))
    (maybe_expr (word_of bytes typedefs) (p 13) r3) _
    (maybe_sound (word_of bytes typedefs) (p 13) n (sound_p 13 (omega arith)) r3)
    (λ f r4 third. on_mark (IsStatement bytes typedefs (suc n) (t ∷ ts)) (word_of bytes typedefs) ")" r4 _
    (λ c r5 at'' close. on_then (IsStatement bytes typedefs n r5) (IsStatement bytes typedefs (suc n) (t ∷ ts))
    (s r5) _ (sound_s r5) (λ x r6 is. (
      record {
        tokens_are = rw (is.0.tokens_are, at'', third.tokens_are, at', second.tokens_are, first.tokens_are, at)
            refl;
        good = (
          (told, open_, first.good.0, second.good.0, ended, third.good.0, close, is.0.good.0),
          omega (arith, first.good.1, second.good.1, third.good.1, is.0.good.1),
        );
      },
      is.1,
    ))))))))

case_sound : (bytes : List ℕ) (typedefs : List (List ℕ)) (p : ℕ → Reader Expr) (d : Reader Declaration)
    (s : Reader Statement) (n : ℕ) (t : Token) (ts : List Token)
    → word_of bytes typedefs t ≡ Fixed (codes "case") → SoundExprs (word_of bytes typedefs) n p
    → SoundReader (GoodDeclaration bytes typedefs n InBlock) declaration d → SoundStatements bytes typedefs n s
    → OnRead (IsStatement bytes typedefs (suc n) (t ∷ ts))
    (statement_by (word_of bytes typedefs) p d s CasePhrase t ts)
case_sound bytes typedefs p d s n t ts told sound_p sound_d sound_s =
    on_then (IsExpr (word_of bytes typedefs) n 11 ts) (IsStatement bytes typedefs (suc n) (t ∷ ts)) (p 11 ts) _
    (sound_p 11 (omega arith) ts)
    (λ e r first. on_mark (IsStatement bytes typedefs (suc n) (t ∷ ts)) (word_of bytes typedefs) ":" r _
    (λ colon r' at told'. on_then (IsStatement bytes typedefs n r') (IsStatement bytes typedefs (suc n) (t ∷ ts))
    (s r') _ (sound_s r') (λ x r'' is. (
      record {
        tokens_are = rw (is.0.tokens_are, at, first.tokens_are) refl;
        good =
            ((told, (first.good.0, first.good.2), told', is.0.good.0), omega (arith, first.good.1, is.0.good.1));
      },
      is.1,
    ))))

default_sound : (bytes : List ℕ) (typedefs : List (List ℕ)) (p : ℕ → Reader Expr) (d : Reader Declaration)
    (s : Reader Statement) (n : ℕ) (t : Token) (ts : List Token)
    → word_of bytes typedefs t ≡ Fixed (codes "default") → SoundExprs (word_of bytes typedefs) n p
    → SoundReader (GoodDeclaration bytes typedefs n InBlock) declaration d → SoundStatements bytes typedefs n s
    → OnRead (IsStatement bytes typedefs (suc n) (t ∷ ts))
    (statement_by (word_of bytes typedefs) p d s DefaultPhrase t ts)
default_sound bytes typedefs p d s n t ts told sound_p sound_d sound_s =
    on_mark (IsStatement bytes typedefs (suc n) (t ∷ ts)) (word_of bytes typedefs) ":" ts _
    (λ colon r at told'. on_then (IsStatement bytes typedefs n r) (IsStatement bytes typedefs (suc n) (t ∷ ts))
    (s r) _ (sound_s r) (λ x r' is. (
      record {
        tokens_are = rw (is.0.tokens_are, at) refl;
        good =
            ((told, told', is.0.good.0), omega (arith, is.0.good.1));
      },
      is.1,
    )))

goto_sound : (bytes : List ℕ) (typedefs : List (List ℕ)) (p : ℕ → Reader Expr) (d : Reader Declaration)
    (s : Reader Statement) (n : ℕ) (t : Token) (ts : List Token)
    → word_of bytes typedefs t ≡ Fixed (codes "goto") → SoundExprs (word_of bytes typedefs) n p
    → SoundReader (GoodDeclaration bytes typedefs n InBlock) declaration d → SoundStatements bytes typedefs n s
    → OnRead (IsStatement bytes typedefs (suc n) (t ∷ ts))
    (statement_by (word_of bytes typedefs) p d s GotoPhrase t ts)
goto_sound bytes typedefs p d s n t ts told sound_p sound_d sound_s =
    on_identifier (IsStatement bytes typedefs (suc n) (t ∷ ts)) (word_of bytes typedefs) ts _
    (λ m r at name. on_mark (IsStatement bytes typedefs (suc n) (t ∷ ts)) (word_of bytes typedefs) ";" r _
    (λ semicolon r' at' ended.
    (record { tokens_are = rw (at', at) refl; good = ((told, name, ended), omega arith) }, closed)))

leave_sound : (bytes : List ℕ) (typedefs : List (List ℕ)) (p : ℕ → Reader Expr) (d : Reader Declaration)
    (s : Reader Statement) (n : ℕ) (t : Token) (ts : List Token)
    → IsJump (word_of bytes typedefs t) → SoundExprs (word_of bytes typedefs) n p
    → SoundReader (GoodDeclaration bytes typedefs n InBlock) declaration d → SoundStatements bytes typedefs n s
    → OnRead (IsStatement bytes typedefs (suc n) (t ∷ ts))
    (statement_by (word_of bytes typedefs) p d s JumpPhrase t ts)
leave_sound bytes typedefs p d s n t ts told sound_p sound_d sound_s =
    on_mark (IsStatement bytes typedefs (suc n) (t ∷ ts)) (word_of bytes typedefs) ";" ts _
    (λ semicolon r at ended. (record { tokens_are = rw (at) refl; good = ((told, ended), omega arith) }, closed))

return_sound : (bytes : List ℕ) (typedefs : List (List ℕ)) (p : ℕ → Reader Expr) (d : Reader Declaration)
    (s : Reader Statement) (n : ℕ) (t : Token) (ts : List Token)
    → word_of bytes typedefs t ≡ Fixed (codes "return") → SoundExprs (word_of bytes typedefs) n p
    → SoundReader (GoodDeclaration bytes typedefs n InBlock) declaration d → SoundStatements bytes typedefs n s
    → OnRead (IsStatement bytes typedefs (suc n) (t ∷ ts))
    (statement_by (word_of bytes typedefs) p d s ReturnPhrase t ts)
return_sound bytes typedefs p d s n t ts told sound_p sound_d sound_s =
    by_if (OnRead (IsStatement bytes typedefs (suc n) (t ∷ ts))) (begins_operand (word_of bytes typedefs) ts) _ _
    (λ _. on_then (IsExpr (word_of bytes typedefs) n 13 ts) (IsStatement bytes typedefs (suc n) (t ∷ ts)) (p 13 ts) _
    (sound_p 13 (omega arith) ts)
    (λ e r first. on_mark (IsStatement bytes typedefs (suc n) (t ∷ ts)) (word_of bytes typedefs) ";" r _
    (λ semicolon r' at ended. (
      record {
        tokens_are = rw (at, first.tokens_are) refl;
        good =
            ((told, first.good.0, ended), omega (arith, first.good.1));
      },
      closed,
    ))))
    (λ _. on_mark (IsStatement bytes typedefs (suc n) (t ∷ ts)) (word_of bytes typedefs) ";" ts _
    (λ semicolon r at ended. (record { tokens_are = rw (at) refl; good = ((told, ended), omega arith) }, closed)))

statement_by_sound : (bytes : List ℕ) (typedefs : List (List ℕ)) (p : ℕ → Reader Expr) (d : Reader Declaration)
    (s : Reader Statement) (n : ℕ) (x : Phrase) (t : Token) (ts : List Token)
    → PhraseTells (word_of bytes typedefs t) x → SoundExprs (word_of bytes typedefs) n p
    → SoundReader (GoodDeclaration bytes typedefs n InBlock) declaration d → SoundStatements bytes typedefs n s
    → OnRead (IsStatement bytes typedefs (suc n) (t ∷ ts)) (statement_by (word_of bytes typedefs) p d s x t ts)
statement_by_sound bytes typedefs p d s n NamePhrase t ts told sound_p sound_d sound_s =
    name_sound bytes typedefs p d s n t ts told sound_p sound_d sound_s
statement_by_sound bytes typedefs p d s n BlockPhrase t ts told sound_p sound_d sound_s =
    block_sound bytes typedefs p d s n t ts told sound_p sound_d sound_s
statement_by_sound bytes typedefs p d s n IfPhrase t ts told sound_p sound_d sound_s =
    if_sound bytes typedefs p d s n t ts told sound_p sound_d sound_s
statement_by_sound bytes typedefs p d s n SwitchPhrase t ts told sound_p sound_d sound_s =
    switch_sound bytes typedefs p d s n t ts told sound_p sound_d sound_s
statement_by_sound bytes typedefs p d s n WhilePhrase t ts told sound_p sound_d sound_s =
    while_sound bytes typedefs p d s n t ts told sound_p sound_d sound_s
statement_by_sound bytes typedefs p d s n DoPhrase t ts told sound_p sound_d sound_s =
    do_sound bytes typedefs p d s n t ts told sound_p sound_d sound_s
statement_by_sound bytes typedefs p d s n ForPhrase t ts told sound_p sound_d sound_s =
    for_sound bytes typedefs p d s n t ts told sound_p sound_d sound_s
statement_by_sound bytes typedefs p d s n CasePhrase t ts told sound_p sound_d sound_s =
    case_sound bytes typedefs p d s n t ts told sound_p sound_d sound_s
statement_by_sound bytes typedefs p d s n DefaultPhrase t ts told sound_p sound_d sound_s =
    default_sound bytes typedefs p d s n t ts told sound_p sound_d sound_s
statement_by_sound bytes typedefs p d s n GotoPhrase t ts told sound_p sound_d sound_s =
    goto_sound bytes typedefs p d s n t ts told sound_p sound_d sound_s
statement_by_sound bytes typedefs p d s n JumpPhrase t ts told sound_p sound_d sound_s =
    leave_sound bytes typedefs p d s n t ts told sound_p sound_d sound_s
statement_by_sound bytes typedefs p d s n ReturnPhrase t ts told sound_p sound_d sound_s =
    return_sound bytes typedefs p d s n t ts told sound_p sound_d sound_s
statement_by_sound bytes typedefs p d s n OtherPhrase t ts told sound_p sound_d sound_s =
    evaluates_sound bytes typedefs (p 13) n (t ∷ ts) (sound_p 13 (omega arith))
statement_by_sound bytes typedefs p d s n ClosePhrase t ts told sound_p sound_d sound_s = tt
statement_by_sound bytes typedefs p d s n ElsePhrase t ts told sound_p sound_d sound_s = tt
statement_by_sound bytes typedefs p d s n EmptyPhrase t ts told sound_p sound_d sound_s =
    (record { tokens_are = refl; good = (told, omega arith) }, closed)

read_statement_sound : (bytes : List ℕ) (typedefs : List (List ℕ)) (p : ℕ → Reader Expr) (d : Reader Declaration)
    (s : Reader Statement) (n : ℕ) → SoundExprs (word_of bytes typedefs) n p
    → SoundReader (GoodDeclaration bytes typedefs n InBlock) declaration d → SoundStatements bytes typedefs n s
    → SoundStatements bytes typedefs (suc n) (read_statement (word_of bytes typedefs) p d s)
read_statement_sound bytes typedefs p d s n sound_p sound_d sound_s [] = tt
read_statement_sound bytes typedefs p d s n sound_p sound_d sound_s (t ∷ ts) =
    statement_by_sound bytes typedefs p d s n (phrase (word_of bytes typedefs t)) t ts
    (phrase_tells (word_of bytes typedefs t)) sound_p sound_d sound_s

pub statement_sound : (bytes : List ℕ) (typedefs : List (List ℕ)) (n : ℕ)
    → SoundStatements bytes typedefs n (statement_at bytes typedefs n)
statement_sound bytes typedefs zero ts = tt
statement_sound bytes typedefs (suc n) ts =
    read_statement_sound bytes typedefs (expr_at (word_of bytes typedefs) n) (declaration_at bytes typedefs n InBlock)
    (statement_at bytes typedefs n) n (all_sound (word_of bytes typedefs) n).exprs
    (declaration_sound bytes typedefs n InBlock) (statement_sound bytes typedefs n) ts

pub body_sound : (bytes : List ℕ) (typedefs : List (List ℕ)) (n : ℕ) → SoundLoop (GoodItems bytes typedefs n) items
    (body_at bytes typedefs n)
body_sound bytes typedefs n ts = item_loop_sound bytes typedefs (declaration_at bytes typedefs n InBlock)
    (statement_at bytes typedefs n) n (length ts) (declaration_sound bytes typedefs n InBlock)
    (statement_sound bytes typedefs n) ts

-- external declarations
function_shape : (x : Shape) → is_function x ≡ true → x ≡ FunctionShape
function_shape JustName h = absurd (false≢true h)
function_shape FunctionShape h = refl
function_shape OtherShape h = absurd (false≢true h)

defines_sound : (bytes : List ℕ) (typedefs : List (List ℕ)) (n : ℕ) (s : Specifiers) (d : Declarator)
    (ts r r' : List Token)
    → IsSpecifiers (word_of bytes typedefs) (suc n) InFile ts s r → IsDeclarator (word_of bytes typedefs)
    (suc n) NewName r d r' → OnRead (IsExternal bytes typedefs (suc n) ts) (defines bytes typedefs n s d r')
defines_sound bytes typedefs n s d ts r r' first second =
    on_guard (IsExternal bytes typedefs (suc n) ts)
    (not (is_typedef (word_of bytes typedefs) s) && is_function (shape d)) _
    (λ h. on_mark (IsExternal bytes typedefs (suc n) ts) (word_of bytes typedefs) "{" r' _ (λ o r'' at open_.
    let all = body_sound bytes typedefs n r'' in
    on_mark (IsExternal bytes typedefs (suc n) ts) (word_of bytes typedefs) "}"
    (body_at bytes typedefs n r'').1 _ (λ c r3 at' close.
    record {
      tokens_are = rw (at', all.tokens_are, at, second.tokens_are, first.tokens_are) refl;
      good = (
        (
          (
            first.good.0,
            first.good.1,
            not_true (is_typedef (word_of bytes typedefs) s)
                (and_left (not (is_typedef (word_of bytes typedefs) s)) (is_function (shape d)) h),
          ),
          (
            second.good.0,
            function_shape (shape d)
                (and_right (not (is_typedef (word_of bytes typedefs) s)) (is_function (shape d)) h),
          ),
          open_,
          all.good.0,
          close,
        ),
        omega (arith, first.good.2, second.good.1, all.good.1),
      );
    })))

pub external_sound : (bytes : List ℕ) (typedefs : List (List ℕ)) (n : ℕ) → SoundReader
    (GoodExternal bytes typedefs (suc n)) external (external_at bytes typedefs n)
external_sound bytes typedefs n ts =
    on_then (IsSpecifiers (word_of bytes typedefs) (suc n) InFile ts) (IsExternal bytes typedefs (suc n) ts)
    (specifiers_at (word_of bytes typedefs) (suc n) InFile ts) _
    ((all_sound (word_of bytes typedefs) (suc n)).specs InFile ts) (λ s r first.
    by_if (OnRead (IsExternal bytes typedefs (suc n) ts)) (is_at (word_of bytes typedefs) ";" r) _ _
    (λ _. on_mark (IsExternal bytes typedefs (suc n) ts) (word_of bytes typedefs) ";" r _
    (λ semicolon r' at ended.
    let bare = bare_sound bytes typedefs (suc n) InFile s semicolon ts r r' first at ended in
    record { tokens_are = bare.tokens_are; good = (bare.good.0, bare.good.1) }))
    (λ _. on_then (IsDeclarator (word_of bytes typedefs) (suc n) NewName r) (IsExternal bytes typedefs (suc n) ts)
    (declarator_at (word_of bytes typedefs) (suc n) NewName r) _
    ((all_sound (word_of bytes typedefs) (suc n)).decls NewName r) (λ d r' second.
    by_if (OnRead (IsExternal bytes typedefs (suc n) ts)) (is_at (word_of bytes typedefs) "{" r') _ _
    (λ _. defines_sound bytes typedefs n s d ts r r' first second)
    (λ _. on_then (IsDeclaration bytes typedefs (suc n) InFile ts) (IsExternal bytes typedefs (suc n) ts)
    (declares bytes typedefs (suc n) s d r') _
    (declares_sound bytes typedefs (suc n) InFile s d ts r r' first second) (λ x r'' is.
    record { tokens_are = is.tokens_are; good = (is.good.0, is.good.1) })))))

-- these are the external declarations of a file that spells these tokens
pub record IsFile (bytes : List ℕ) (typedefs : List (List ℕ)) (n : ℕ) (ts : List Token)
    (xs : List External) : Type 0 where
  pub tokens_are : file xs [] ≡ ts
  pub fits : FitsFile bytes typedefs xs
  pub nests : file_nesting xs ≤ n

abbrev FileRead : List ℕ → List (List ℕ) → ℕ → List Token → Option (List External) → Type 0
FileRead bytes typedefs n ts None = Unit {0}
FileRead bytes typedefs n ts (Some xs) = IsFile bytes typedefs n ts xs

empty_file : (bytes : List ℕ) (typedefs : List (List ℕ)) (n : ℕ) (ts : List Token) → is_empty ts ≡ true
    → FileRead bytes typedefs n ts (Some [])
empty_file bytes typedefs n [] h = record { tokens_are = refl; fits = tt; nests = omega arith }
empty_file bytes typedefs n (t ∷ ts) h = absurd (false≢true h)

all_behind : (bytes : List ℕ) (typedefs : List (List ℕ)) (n : ℕ) (ts r : List Token) (x : External)
    (rest : Option (List External))
    → IsExternal bytes typedefs n ts x r → FileRead bytes (external_after bytes x typedefs) n r rest
    → FileRead bytes typedefs n ts (rest >>= λ xs. Some (x ∷ xs))
all_behind bytes typedefs n ts r x None first later = tt
all_behind bytes typedefs n ts r x (Some xs) first later =
    record {
      tokens_are = ap (external x) later.tokens_are ∙ first.tokens_are;
      fits = (first.good.0, later.fits);
      nests = omega (arith, first.good.1, later.nests);
    }

external_then : (bytes : List ℕ) (typedefs : List (List ℕ)) (n : ℕ) (ts : List Token) (read : Read External)
    (go : External × List Token → Option (List External))
    → OnRead (IsExternal bytes typedefs n ts) read
    → ((x : External) (r : List Token) → IsExternal bytes typedefs n ts x r
    → FileRead bytes typedefs n ts (go (x, r)))
    → FileRead bytes typedefs n ts (read >>= go)
external_then bytes typedefs n ts None go h next = tt
external_then bytes typedefs n ts (Some x) go h next = next x.0 x.1 h

file_loop_sound : (bytes : List ℕ) (n f : ℕ) (typedefs : List (List ℕ)) (ts : List Token)
    → FileRead bytes typedefs (suc n) ts (file_loop bytes n f typedefs ts)
file_loop_sound bytes n zero typedefs ts = by_if (FileRead bytes typedefs (suc n) ts) (is_empty ts) (Some []) None
    (empty_file bytes typedefs (suc n) ts) (λ _. tt)
file_loop_sound bytes n (suc f) typedefs ts =
    by_if (FileRead bytes typedefs (suc n) ts) (is_empty ts) (Some []) _ (empty_file bytes typedefs (suc n) ts)
    (λ _. external_then bytes typedefs (suc n) ts (external_at bytes typedefs n ts) _
    (external_sound bytes typedefs n ts) (λ x r is.
    all_behind bytes typedefs (suc n) ts r x (file_loop bytes n f (external_after bytes x typedefs) r) is
    (file_loop_sound bytes n f (external_after bytes x typedefs) r)))

file_answer : (bytes : List ℕ) (typedefs : List (List ℕ)) (n : ℕ) (ts : List Token) (xs : List External)
    (read : Option (List External)) → read ≡ Some xs → FileRead bytes typedefs n ts read → IsFile bytes typedefs n ts xs
file_answer bytes typedefs n ts xs read e h = rw e at h

-- a file that is read is spelled
pub file_is_spelled : (bytes : List ℕ) (n f : ℕ) (typedefs : List (List ℕ)) (ts : List Token) (xs : List External)
    → file_loop bytes n f typedefs ts ≡ Some xs → IsFile bytes typedefs (suc n) ts xs
file_is_spelled bytes n f typedefs ts xs read = file_answer bytes typedefs (suc n) ts xs
    (file_loop bytes n f typedefs ts) read (file_loop_sound bytes n f typedefs ts)
