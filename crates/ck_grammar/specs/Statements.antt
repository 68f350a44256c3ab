-- The trees of initialisers, declarations, statements and files, in the manner of `Trees`.
use Rattle.std.specs.Prelude.{Option}
use Rattle.ck_base.specs.declared.tokens.Token.{Token}
use Rattle.ck_grammar.specs.Trees.{Expr, Specifiers, Declarator}

-- `.` name or `[` conditional expression `]`, and so on, up to `=` (6.7.8)
pub data Designators : Type 0 where
  Equals : Token → Designators
  DotName : Token → Token → Designators → Designators
  AtIndex : Token → Expr → Token → Designators → Designators

mutual
  -- initialisers (6.7.8)
  pub data Init : Type 0 where
    -- an assignment expression
    Value : Expr → Init
    -- `{` initialisers `}`
    Braced : Token → Inits → Token → Init

  -- initialisers in braces, each maybe after designators; the last one maybe with a comma after it
  pub data Inits : Type 0 where
    LastInit : Option Designators → Init → Option Token → Inits
    NextInit : Option Designators → Init → Token → Inits → Inits

-- further declarators, each after a comma, maybe with `=` and an initialiser after it (6.7)
pub data MoreDeclared : Type 0 where
  NoMoreDeclared : MoreDeclared
  AndPlainly : Token → Declarator → MoreDeclared → MoreDeclared
  AndInitialised : Token → Declarator → Token → Init → MoreDeclared → MoreDeclared

-- what is after a declarator: maybe `=` and an initialiser, and then further declarators (6.7)
pub data Declared : Type 0 where
  Plainly : MoreDeclared → Declared
  Initialised : Token → Init → MoreDeclared → Declared

-- declarations (6.7): specifiers, maybe declarators, `;`
pub data Declaration : Type 0 where
  Bare : Specifiers → Token → Declaration
  Declares : Specifiers → Declarator → Declared → Token → Declaration

-- what `for` begins with (6.8.5.3): an expression or none and `;`, or a declaration
pub data ForStart : Type 0 where
  StartEmpty : Token → ForStart
  StartExpr : Expr → Token → ForStart
  StartDeclaration : Declaration → ForStart

mutual
  -- statements (6.8)
  pub data Statement : Type 0 where
    -- `{` items `}` (6.8.2)
    Block : Token → BlockItems → Token → Statement
    -- `;` and expression `;` (6.8.3)
    Empty : Token → Statement
    ExpressionStatement : Expr → Token → Statement
    -- `if` `(` expression `)` statement, and maybe `else` statement (6.8.4.1)
    If : Token → Token → Expr → Token → Statement → Statement
    IfElse : Token → Token → Expr → Token → Statement → Token → Statement → Statement
    -- `switch` `(` expression `)` statement (6.8.4.2)
    Switch : Token → Token → Expr → Token → Statement → Statement
    -- `while` `(` expression `)` statement (6.8.5.1)
    While : Token → Token → Expr → Token → Statement → Statement
    -- `do` statement `while` `(` expression `)` `;` (6.8.5.2)
    Do : Token → Statement → Token → Token → Expr → Token → Token → Statement
    -- `for` `(` start [expression] `;` [expression] `)` statement (6.8.5.3)
    For : Token → Token → ForStart → Option Expr → Token → Option Expr → Token → Statement → Statement
    -- `case` conditional expression `:` statement, `default` `:` statement, name `:` statement (6.8.1)
    Case : Token → Expr → Token → Statement → Statement
    Default : Token → Token → Statement → Statement
    Label : Token → Token → Statement → Statement
    -- `goto` name `;`, `break` `;`, `continue` `;`, `return` [expression] `;` (6.8.6)
    Goto : Token → Token → Token → Statement
    Jump : Token → Token → Statement
    Return : Token → Token → Statement
    ReturnValue : Token → Expr → Token → Statement

  -- what is in a block (6.8.2)
  pub data BlockItems : Type 0 where
    NoBlockItems : BlockItems
    DeclarationItem : Declaration → BlockItems → BlockItems
    StatementItem : Statement → BlockItems → BlockItems

-- external declarations (6.9): declarations, and function definitions with their bodies (6.9.1)
pub data External : Type 0 where
  FileDeclaration : Declaration → External
  FunctionDefinition : Specifiers → Declarator → Token → BlockItems → Token → External
