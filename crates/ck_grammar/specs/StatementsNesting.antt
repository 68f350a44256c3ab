-- How deep declarations, statements and files nest: as `Nesting`, counting statements and initialiser lists too. A
-- function's body counts one.
use Rattle.std.specs.Prelude.{ℕ, suc, max, List, [], ◌∷◌, Option, Some, None}
use Rattle.ck_grammar.specs.Nesting.{nesting, specifiers_nesting, declarator_nesting}
use Rattle.ck_grammar.specs.Statements.{Designators, Init, Inits, Declared, MoreDeclared, Declaration, ForStart}
use Rattle.ck_grammar.specs.Statements.{Statement, BlockItems, External, Equals, DotName, AtIndex, Value, Braced}
use Rattle.ck_grammar.specs.Statements.{LastInit, NextInit, Plainly, Initialised, NoMoreDeclared, AndPlainly}
use Rattle.ck_grammar.specs.Statements.{AndInitialised, Bare, Declares, StartEmpty, StartExpr, StartDeclaration, Block}
use Rattle.ck_grammar.specs.Statements.{Empty, ExpressionStatement, If, IfElse, Switch, While, Do, For, Case, Default}
use Rattle.ck_grammar.specs.Statements.{Label, Goto, Jump, Return, ReturnValue, NoBlockItems, DeclarationItem}
use Rattle.ck_grammar.specs.Statements.{StatementItem, FileDeclaration, FunctionDefinition}
use Rattle.ck_grammar.specs.Trees.{Expr}

abbrev pub designators_nesting : Designators → ℕ
designators_nesting (Equals eq) = 0
designators_nesting (DotName t n rest) = designators_nesting rest
designators_nesting (AtIndex o e c rest) = max (nesting e) (designators_nesting rest)

abbrev pub designation_nesting : Option Designators → ℕ
designation_nesting None = 0
designation_nesting (Some ds) = designators_nesting ds

abbrev mutual
  pub init_nesting : Init → ℕ
  init_nesting (Value e) = nesting e
  init_nesting (Braced o is c) = suc (inits_nesting is)

  pub inits_nesting : Inits → ℕ
  inits_nesting (LastInit ds i comma) = max (designation_nesting ds) (init_nesting i)
  inits_nesting (NextInit ds i comma rest) = max (max (designation_nesting ds) (init_nesting i)) (inits_nesting rest)

abbrev pub more_declared_nesting : MoreDeclared → ℕ
more_declared_nesting NoMoreDeclared = 0
more_declared_nesting (AndPlainly comma d rest) = max (declarator_nesting d) (more_declared_nesting rest)
more_declared_nesting (AndInitialised comma d eq i rest) = max (max (declarator_nesting d) (init_nesting i))
    (more_declared_nesting rest)

abbrev pub declared_nesting : Declared → ℕ
declared_nesting (Plainly rest) = more_declared_nesting rest
declared_nesting (Initialised eq i rest) = max (init_nesting i) (more_declared_nesting rest)

abbrev pub declaration_nesting : Declaration → ℕ
declaration_nesting (Bare s semicolon) = specifiers_nesting s
declaration_nesting (Declares s d rest semicolon) = max (max (specifiers_nesting s) (declarator_nesting d))
    (declared_nesting rest)

abbrev pub start_nesting : ForStart → ℕ
start_nesting (StartEmpty semicolon) = 0
start_nesting (StartExpr e semicolon) = nesting e
start_nesting (StartDeclaration d) = declaration_nesting d

abbrev pub maybe_nesting : Option Expr → ℕ
maybe_nesting None = 0
maybe_nesting (Some e) = nesting e

abbrev mutual
  pub statement_nesting : Statement → ℕ
  statement_nesting (Block o is c) = suc (items_nesting is)
  statement_nesting (Empty semicolon) = 1
  statement_nesting (ExpressionStatement e semicolon) = suc (nesting e)
  statement_nesting (If k o e c s) = suc (max (nesting e) (statement_nesting s))
  statement_nesting (IfElse k o e c s l t) = suc (max (nesting e) (max (statement_nesting s) (statement_nesting t)))
  statement_nesting (Switch k o e c s) = suc (max (nesting e) (statement_nesting s))
  statement_nesting (While k o e c s) = suc (max (nesting e) (statement_nesting s))
  statement_nesting (Do k s l o e c semicolon) = suc (max (statement_nesting s) (nesting e))
  statement_nesting (For k o start e semicolon f c s) =
      suc (max (max (start_nesting start) (maybe_nesting e)) (max (maybe_nesting f) (statement_nesting s)))
  statement_nesting (Case k e colon s) = suc (max (nesting e) (statement_nesting s))
  statement_nesting (Default k colon s) = suc (statement_nesting s)
  statement_nesting (Label t colon s) = suc (statement_nesting s)
  statement_nesting (Goto k t semicolon) = 1
  statement_nesting (Jump k semicolon) = 1
  statement_nesting (Return k semicolon) = 1
  statement_nesting (ReturnValue k e semicolon) = suc (nesting e)

  pub items_nesting : BlockItems → ℕ
  items_nesting NoBlockItems = 0
  items_nesting (DeclarationItem d rest) = max (declaration_nesting d) (items_nesting rest)
  items_nesting (StatementItem s rest) = max (statement_nesting s) (items_nesting rest)

abbrev pub external_nesting : External → ℕ
external_nesting (FileDeclaration d) = declaration_nesting d
external_nesting (FunctionDefinition s d o is c) = max (max (specifiers_nesting s) (declarator_nesting d))
    (suc (items_nesting is))

abbrev pub file_nesting : List External → ℕ
file_nesting [] = 0
file_nesting (x ∷ xs) = max (external_nesting x) (file_nesting xs)
