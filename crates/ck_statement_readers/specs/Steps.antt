-- The grammar's readers of statements by their parts, over readers of what is inside.
use Rattle.std.specs.Prelude.{List, length, Some, if◌then◌else◌}
use Rattle.ck_base.specs.declared.tokens.Token.{Token}
use Rattle.ck_grammar.specs.Readers.{Reader, ◌>>=◌, is_at, mark}
use Rattle.ck_grammar.specs.ReadingStatements.{item_loop, maybe_expr, start}
use Rattle.ck_grammar.specs.Statements.{Declaration, ForStart, Statement, BlockItems, Label, If, IfElse}
use Rattle.ck_grammar.specs.Trees.{Expr}
use Rattle.ck_grammar.specs.Words.{Word}
use Rattle.ck_statement_trees.specs.Parts.{ForHead}

module _ (w : Token → Word) where
  -- after the start of `for`: [expression] `;` [expression] `)` (6.8.5.3), and then what `go` reads
  abbrev pub head_rest : Reader Expr → Token → ForStart → (ForHead → Reader Statement) → Reader Statement
  head_rest expr opening first go ts = do
    (test, ts) ← maybe_expr w expr ts
    (semicolon, ts) ← mark w ";" ts
    (step, ts) ← maybe_expr w expr ts
    (closing, ts) ← mark w ")" ts
    go (record {
      opening = opening;
      start = first;
      test = test;
      semicolon = semicolon;
      step = step;
      closing = closing;
    }) ts

  -- `(` start [expression] `;` [expression] `)`, and then what `go` reads
  abbrev pub head_of_for : Reader Expr → Reader Declaration → (ForHead → Reader Statement) → Reader Statement
  head_of_for expr declaration go ts = do
    (opening, ts) ← mark w "(" ts
    (first, ts) ← start w expr declaration ts
    head_rest expr opening first go ts

  module _ (statement : Reader Statement) where
    -- `:` statement after a name (6.8.1)
    abbrev pub label_after : Token → Reader Statement
    label_after name ts = do
      (colon, ts) ← mark w ":" ts
      (s, ts) ← statement ts
      Some (Label name colon s, ts)

    -- after `if` `(` expression `)` statement, maybe `else` statement (6.8.4.1)
    abbrev pub else_after : Token → Token × Expr × Token → Statement → Reader Statement
    else_after keyword test s ts =
        if is_at w "else" ts
        then (do
          (else_, ts) ← mark w "else" ts
          (t, ts) ← statement ts
          Some (IfElse keyword test.0 test.1 test.2 s else_ t, ts))
        else Some (If keyword test.0 test.1 test.2 s, ts)

  -- the items of a block, as many as come (6.8.2)
  abbrev pub items_from : Reader Declaration → Reader Statement → List Token → BlockItems × List Token
  items_from declaration statement ts = item_loop w declaration statement (length ts) ts
