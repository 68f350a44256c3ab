-- The tokens that declarations, statements and files are written with, in order, and more tokens after them (C99 6.7
-- to 6.9).
use Rattle.std.specs.Prelude.{List, [], ◌∷◌, Option, Some, None}
use Rattle.ck_base.specs.declared.tokens.Token.{Token}
use Rattle.ck_grammar.specs.Statements.{Designators, Init, Inits, Declared, MoreDeclared, Declaration, ForStart}
use Rattle.ck_grammar.specs.Statements.{Statement, BlockItems, External, Equals, DotName, AtIndex, Value, Braced}
use Rattle.ck_grammar.specs.Statements.{LastInit, NextInit, Plainly, Initialised, NoMoreDeclared, AndPlainly}
use Rattle.ck_grammar.specs.Statements.{AndInitialised, Bare, Declares, StartEmpty, StartExpr, StartDeclaration, Block}
use Rattle.ck_grammar.specs.Statements.{Empty, ExpressionStatement, If, IfElse, Switch, While, Do, For, Case, Default}
use Rattle.ck_grammar.specs.Statements.{Label, Goto, Jump, Return, ReturnValue, NoBlockItems, DeclarationItem}
use Rattle.ck_grammar.specs.Statements.{StatementItem, FileDeclaration, FunctionDefinition}
use Rattle.ck_grammar.specs.Trees.{Expr}
use Rattle.ck_grammar.specs.Written.{written, specifiers, declarator, optional}

abbrev pub designators : Designators → List Token → List Token
designators (Equals eq) more = eq ∷ more
designators (DotName t n rest) more = t ∷ n ∷ designators rest more
designators (AtIndex o e c rest) more = o ∷ written e (c ∷ designators rest more)

abbrev pub designation : Option Designators → List Token → List Token
designation None more = more
designation (Some ds) more = designators ds more

abbrev mutual
  pub init : Init → List Token → List Token
  init (Value e) more = written e more
  init (Braced o is c) more = o ∷ inits is (c ∷ more)

  pub inits : Inits → List Token → List Token
  inits (LastInit ds i comma) more = designation ds (init i (optional comma more))
  inits (NextInit ds i comma rest) more = designation ds (init i (comma ∷ inits rest more))

abbrev pub more_declared : MoreDeclared → List Token → List Token
more_declared NoMoreDeclared more = more
more_declared (AndPlainly comma d rest) more = comma ∷ declarator d (more_declared rest more)
more_declared (AndInitialised comma d eq i rest) more = comma ∷ declarator d (eq ∷ init i (more_declared rest more))

abbrev pub declared : Declared → List Token → List Token
declared (Plainly rest) more = more_declared rest more
declared (Initialised eq i rest) more = eq ∷ init i (more_declared rest more)

abbrev pub declaration : Declaration → List Token → List Token
declaration (Bare s semicolon) more = specifiers s (semicolon ∷ more)
declaration (Declares s d rest semicolon) more = specifiers s (declarator d (declared rest (semicolon ∷ more)))

abbrev pub for_start : ForStart → List Token → List Token
for_start (StartEmpty semicolon) more = semicolon ∷ more
for_start (StartExpr e semicolon) more = written e (semicolon ∷ more)
for_start (StartDeclaration d) more = declaration d more

abbrev pub maybe_written : Option Expr → List Token → List Token
maybe_written None more = more
maybe_written (Some e) more = written e more

abbrev mutual
  pub statement : Statement → List Token → List Token
  statement (Block o is c) more = o ∷ items is (c ∷ more)
  statement (Empty semicolon) more = semicolon ∷ more
  statement (ExpressionStatement e semicolon) more = written e (semicolon ∷ more)
  statement (If k o e c s) more = k ∷ o ∷ written e (c ∷ statement s more)
  statement (IfElse k o e c s l t) more = k ∷ o ∷ written e (c ∷ statement s (l ∷ statement t more))
  statement (Switch k o e c s) more = k ∷ o ∷ written e (c ∷ statement s more)
  statement (While k o e c s) more = k ∷ o ∷ written e (c ∷ statement s more)
  statement (Do k s l o e c semicolon) more = k ∷ statement s (l ∷ o ∷ written e (c ∷ semicolon ∷ more))
  statement (For k o start e semicolon f c s) more = k ∷ o ∷ for_start start
      (maybe_written e (semicolon ∷ maybe_written f (c ∷ statement s more)))
  statement (Case k e colon s) more = k ∷ written e (colon ∷ statement s more)
  statement (Default k colon s) more = k ∷ colon ∷ statement s more
  statement (Label t colon s) more = t ∷ colon ∷ statement s more
  statement (Goto k t semicolon) more = k ∷ t ∷ semicolon ∷ more
  statement (Jump k semicolon) more = k ∷ semicolon ∷ more
  statement (Return k semicolon) more = k ∷ semicolon ∷ more
  statement (ReturnValue k e semicolon) more = k ∷ written e (semicolon ∷ more)

  pub items : BlockItems → List Token → List Token
  items NoBlockItems more = more
  items (DeclarationItem d rest) more = declaration d (items rest more)
  items (StatementItem s rest) more = statement s (items rest more)

abbrev pub external : External → List Token → List Token
external (FileDeclaration d) more = declaration d more
external (FunctionDefinition s d o is c) more = specifiers s (declarator d (o ∷ items is (c ∷ more)))

-- a file (6.9)
abbrev pub file : List External → List Token → List Token
file [] more = more
file (x ∷ xs) more = external x (file xs more)
