-- A controlling expression and a statement, and what is made of them.
use Rattle.std.proofs.Common.{◌≡◌, ℕ, List, drop, refl, ap, sym, ◌∙◌}
use Rattle.std.specs.Prelude.{Option, Some, None, Result, codes}
use Rattle.ck_base.specs.declared.refusals.OutOfMemory.{OutOfMemory}
use Rattle.ck_base.specs.declared.tokens.Token.{Token}
use Rattle.ck_grammar.specs.Readers.{Read, Reader, ◌>>=◌}
use Rattle.ck_grammar.specs.ReadingStatements.{controlling}
use Rattle.ck_grammar.specs.Statements.{Statement, IfElse, Switch, While}
use Rattle.ck_grammar.specs.Trees.{Expr}
use Rattle.ck_grammar.specs.Words.{Word}
use Rattle.ck_readers.specs.Places.{ReadAt, IsRead, itself}
use Rattle.ck_readers.specs.SourceView.{text_mark}
use Rattle.ck_statement_trees.proofs.Marks.{marked}
use Rattle.ck_statement_trees.proofs.Wholes.{read_from}
use Rattle.ck_statement_readers.specs.Steps.{else_after}

-- what is made of a test and a statement
abbrev pub while_made : Token → Token × Expr × Token → Statement → Reader Statement
while_made keyword test s ts = Some (While keyword test.0 test.1 test.2 s, ts)

abbrev pub switch_made : Token → Token × Expr × Token → Statement → Reader Statement
switch_made keyword test s ts = Some (Switch keyword test.0 test.1 test.2 s, ts)

module _ (w : Token → Word) (expr : Reader Expr) (statement : Reader Statement)
    (go : Token × Expr × Token → Statement → Reader Statement) where
  abbrev after_test : Token × Expr × Token → Reader Statement
  after_test test ts = do
    (s, ts) ← statement ts
    go test s ts

  abbrev pub tested : Reader Statement
  tested ts = do
    (test, ts) ← controlling w expr ts
    after_test test ts

  abbrev test_by : Read (Token × Expr × Token) → Read Statement
  test_by read = read >>= (λ x. after_test x.0 x.1)

  abbrev body_by : Token × Expr × Token → Read Statement → Read Statement
  body_by test read = read >>= (λ x. go test x.0 x.1)

  pub no_test : (ts : List Token) → controlling w expr ts ≡ None → tested ts ≡ None
  no_test ts h = ap test_by h

  pub no_body : (ts : List Token) (x : (Token × Expr × Token) × List Token) → controlling w expr ts ≡ Some x
      → statement x.1 ≡ None → tested ts ≡ None
  no_body ts x h none = ap test_by h ∙ ap (body_by x.0) none

  pub test_body : {X C : Type 0} (view : X → Statement) (test : C → Token × Expr × Token) (tokens : List Token)
      (at : ℕ) (found : C × ℕ) (body : X × ℕ) → IsRead test (controlling w expr) tokens at found
      → IsRead view statement tokens found.1 body → (answer : Result (Option (X × ℕ)) OutOfMemory)
      → ReadAt view (go (test found.0) (view body.0)) tokens body.1 answer → ReadAt view tested tokens at answer
  test_body view test tokens at found body first second =
      read_from view tested (go (test found.0) (view body.0)) tokens at body.1
      (λ h. second.within (first.within h))
      (ap test_by first.read ∙ ap (body_by (test found.0)) second.read)

-- `else` and a statement come
pub else_read : {X : Type 0} (w : Token → Word) (statement : Reader Statement) (view : X → Statement)
    (keyword : Token) (test : Token × Expr × Token) (s : Statement) (tokens : List Token) (at : ℕ)
    (mark : Token × ℕ) (read : X × ℕ) (tree : X) → IsRead itself (text_mark w (codes "else")) tokens at mark
    → IsRead view statement tokens mark.1 read
    → view tree ≡ IfElse keyword test.0 test.1 test.2 s mark.0 (view read.0)
    → IsRead view (else_after w statement keyword test s) tokens at (tree, read.1)
else_read w statement view keyword test s tokens at mark read tree there second made =
    let m = marked w (codes "else") (drop at tokens) (mark.0, drop mark.1 tokens) there.read in
    record {
      read = rw (m.is, m.told, second.read) refl ∙ ap (λ t. Some (t, drop read.1 tokens)) (sym made);
      within = λ h. second.within (there.within h);
    }
