-- What a tree spells (C99 6.5, 6.7 to 6.9): the tokens that it is written with, where it is well formed and nests at
-- most 200 deep.
use Rattle.std.specs.Prelude.{◌≡◌, ℕ, ◌≤◌, List, []}
use Rattle.ck_base.specs.declared.tokens.Token.{Token}
use Rattle.ck_grammar.specs.Fitting.{Fits}
use Rattle.ck_grammar.specs.Nesting.{nesting}
use Rattle.ck_grammar.specs.Specified.{Place}
use Rattle.ck_grammar.specs.Statements.{Declaration, Statement, External}
use Rattle.ck_grammar.specs.StatementsFitting.{FitsDeclaration, FitsStatement, FitsExternal, FitsFile}
use Rattle.ck_grammar.specs.StatementsNesting.{declaration_nesting, statement_nesting, external_nesting, file_nesting}
use Rattle.ck_grammar.specs.StatementsWritten.{declaration, statement, external, file}
use Rattle.ck_grammar.specs.Trees.{Expr}
use Rattle.ck_grammar.specs.Words.{word_of}
use Rattle.ck_grammar.specs.Written.{written}

-- the deepest nesting
abbrev pub most : ℕ
most = 200

-- the tree spells these tokens of a file's bytes, where these are the typedef names
pub record Spells (e : Expr) (bytes : List ℕ) (tokens : List Token) (typedefs : List (List ℕ)) : Type 0 where
  pub tokens_are : written e [] ≡ tokens
  pub fits : Fits (word_of bytes typedefs) e
  pub nests : nesting e ≤ most

-- a declaration in a block or at file scope, where these are the typedef names before it
pub record SpellsDeclaration (place : Place) (d : Declaration) (bytes : List ℕ) (tokens : List Token)
    (typedefs : List (List ℕ)) : Type 0 where
  pub tokens_are : declaration d [] ≡ tokens
  pub fits : FitsDeclaration bytes typedefs place d
  pub nests : declaration_nesting d ≤ most

pub record SpellsStatement (s : Statement) (bytes : List ℕ) (tokens : List Token)
    (typedefs : List (List ℕ)) : Type 0 where
  pub tokens_are : statement s [] ≡ tokens
  pub fits : FitsStatement bytes typedefs s
  pub nests : statement_nesting s ≤ most

-- a declaration at file scope or a function definition
pub record SpellsExternal (x : External) (bytes : List ℕ) (tokens : List Token)
    (typedefs : List (List ℕ)) : Type 0 where
  pub tokens_are : external x [] ≡ tokens
  pub fits : FitsExternal bytes typedefs x
  pub nests : external_nesting x ≤ most

-- a whole file, which begins with no typedef names
pub record SpellsFile (externals : List External) (bytes : List ℕ) (tokens : List Token) : Type 0 where
  pub tokens_are : file externals [] ≡ tokens
  pub fits : FitsFile bytes [] externals
  pub nests : file_nesting externals ≤ most

-- no tokens are spelled by two expressions
abbrev pub OneExpression : Type 0
OneExpression = (bytes : List ℕ) (typedefs : List (List ℕ)) (tokens : List Token) (e f : Expr)
    → Spells e bytes tokens typedefs → Spells f bytes tokens typedefs → e ≡ f

-- no tokens are spelled by two declarations
abbrev pub OneDeclaration : Type 0
OneDeclaration =
    (place : Place) (bytes : List ℕ) (typedefs : List (List ℕ)) (tokens : List Token) (d e : Declaration)
    → SpellsDeclaration place d bytes tokens typedefs → SpellsDeclaration place e bytes tokens typedefs → d ≡ e

-- no tokens are spelled by two statements
abbrev pub OneStatement : Type 0
OneStatement = (bytes : List ℕ) (typedefs : List (List ℕ)) (tokens : List Token) (s t : Statement)
    → SpellsStatement s bytes tokens typedefs → SpellsStatement t bytes tokens typedefs → s ≡ t

-- no tokens are spelled by two external declarations
abbrev pub OneExternal : Type 0
OneExternal = (bytes : List ℕ) (typedefs : List (List ℕ)) (tokens : List Token) (x y : External)
    → SpellsExternal x bytes tokens typedefs → SpellsExternal y bytes tokens typedefs → x ≡ y

-- no tokens are spelled by two files
abbrev pub OneFile : Type 0
OneFile = (bytes : List ℕ) (tokens : List Token) (xs ys : List External) → SpellsFile xs bytes tokens
    → SpellsFile ys bytes tokens → xs ≡ ys
