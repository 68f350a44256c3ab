-- Parts of statements that are no trees of their own.
use Rattle.std.specs.Prelude.{Option, Some, None}
use Rattle.ck_base.specs.declared.tokens.Token.{Token}
use Rattle.ck_grammar.specs.Statements.{Statement, ForStart, For}
use Rattle.ck_grammar.specs.Trees.{Expr}

-- the plain value, where there is one
abbrev pub maybe : {X B : Type 0} → (X → B) → Option X → Option B
maybe view None = None
maybe view (Some x) = Some (view x)

-- `(` start [expression] `;` [expression] `)` of `for` (C99 6.8.5.3)
pub record ForHead : Type 0 where
  pub opening : Token
  pub start : ForStart
  pub test : Option Expr
  pub semicolon : Token
  pub step : Option Expr
  pub closing : Token

-- `for`, its head, a statement
abbrev pub for_statement : Token → ForHead → Statement → Statement
for_statement keyword head s =
    For keyword head.opening head.start head.test head.semicolon head.step head.closing s
