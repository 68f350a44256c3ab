-- Declarations and statements with more after them are longer than that.
use Rattle.std.proofs.Common.{◌≡◌, suc, ◌≤◌, false, List, [], ◌∷◌, length, Option, Some, None, refl, arith}
use Rattle.ck_base.specs.declared.tokens.Token.{Token}
use Rattle.ck_grammar.proofs.Lengths.{longer, longer_specifiers, longer_declarator, longer_optional}
use Rattle.ck_grammar.specs.ReadingStatements.{is_empty}
use Rattle.ck_grammar.specs.Statements.{Designators, Init, Inits, Declared, MoreDeclared, Declaration, ForStart}
use Rattle.ck_grammar.specs.Statements.{Statement, BlockItems, External, Equals, DotName, AtIndex, Value, Braced}
use Rattle.ck_grammar.specs.Statements.{LastInit, NextInit, Plainly, Initialised, NoMoreDeclared, AndPlainly}
use Rattle.ck_grammar.specs.Statements.{AndInitialised, Bare, Declares, StartEmpty, StartExpr, StartDeclaration, Block}
use Rattle.ck_grammar.specs.Statements.{Empty, ExpressionStatement, If, IfElse, Switch, While, Do, For, Case, Default}
use Rattle.ck_grammar.specs.Statements.{Label, Goto, Jump, Return, ReturnValue, NoBlockItems, DeclarationItem}
use Rattle.ck_grammar.specs.Statements.{StatementItem, FileDeclaration, FunctionDefinition}
use Rattle.ck_grammar.specs.StatementsWritten.{designators, designation, init, inits, more_declared, declared}
use Rattle.ck_grammar.specs.StatementsWritten.{declaration, for_start, maybe_written, statement, items, external}
use Rattle.ck_grammar.specs.Trees.{Expr}
use Rattle.ck_grammar.specs.Written.{written, declarator, optional}

pub longer_designators : (ds : Designators) (more : List Token) → length more ≤ length (designators ds more)
longer_designators (Equals eq) more = omega arith
longer_designators (DotName t n rest) more = omega (arith, longer_designators rest more)
longer_designators (AtIndex o e c rest) more =
    omega (arith, longer e (c ∷ designators rest more), longer_designators rest more)

pub longer_designation : (ds : Option Designators) (more : List Token) → length more ≤ length (designation ds more)
longer_designation None more = omega arith
longer_designation (Some ds) more = longer_designators ds more

mutual
  pub longer_init : (i : Init) (more : List Token) → length more ≤ length (init i more)
  longer_init (Value e) more = longer e more
  longer_init (Braced o is c) more = omega (arith, longer_inits is (c ∷ more))

  pub longer_inits : (is : Inits) (more : List Token) → length more ≤ length (inits is more)
  longer_inits (LastInit ds i comma) more =
      omega (
        arith,
        longer_designation ds (init i (optional comma more)),
        longer_init i (optional comma more),
        longer_optional comma more,
      )
  longer_inits (NextInit ds i comma rest) more =
      omega (
        arith,
        longer_designation ds (init i (comma ∷ inits rest more)),
        longer_init i (comma ∷ inits rest more),
        longer_inits rest more,
      )

pub longer_more_declared : (m : MoreDeclared) (more : List Token) → length more ≤ length (more_declared m more)
longer_more_declared NoMoreDeclared more = omega arith
longer_more_declared (AndPlainly comma d rest) more =
    omega (arith, longer_declarator d (more_declared rest more), longer_more_declared rest more)
longer_more_declared (AndInitialised comma d eq i rest) more =
    omega (
      arith,
      longer_declarator d (eq ∷ init i (more_declared rest more)),
      longer_init i (more_declared rest more),
      longer_more_declared rest more,
    )

pub longer_declared : (d : Declared) (more : List Token) → length more ≤ length (declared d more)
longer_declared (Plainly rest) more = longer_more_declared rest more
longer_declared (Initialised eq i rest) more =
    omega (arith, longer_init i (more_declared rest more), longer_more_declared rest more)

pub longer_declaration : (d : Declaration) (more : List Token) → suc (length more) ≤ length (declaration d more)
longer_declaration (Bare s semicolon) more = longer_specifiers s (semicolon ∷ more)
longer_declaration (Declares s d rest semicolon) more =
    omega (
      arith,
      longer_specifiers s (declarator d (declared rest (semicolon ∷ more))),
      longer_declarator d (declared rest (semicolon ∷ more)),
      longer_declared rest (semicolon ∷ more),
    )

longer_start : (start : ForStart) (more : List Token) → length more ≤ length (for_start start more)
longer_start (StartEmpty semicolon) more = omega arith
longer_start (StartExpr e semicolon) more = omega (arith, longer e (semicolon ∷ more))
longer_start (StartDeclaration d) more = omega (arith, longer_declaration d more)

longer_maybe : (e : Option Expr) (more : List Token) → length more ≤ length (maybe_written e more)
longer_maybe None more = omega arith
longer_maybe (Some e) more = longer e more

mutual
  pub longer_statement : (s : Statement) (more : List Token) → suc (length more) ≤ length (statement s more)
  longer_statement (Block o is c) more = omega (arith, longer_items is (c ∷ more))
  longer_statement (Empty semicolon) more = omega arith
  longer_statement (ExpressionStatement e semicolon) more = longer e (semicolon ∷ more)
  longer_statement (If k o e c s) more = omega (arith, longer e (c ∷ statement s more), longer_statement s more)
  longer_statement (IfElse k o e c s l t) more =
      omega (
        arith,
        longer e (c ∷ statement s (l ∷ statement t more)),
        longer_statement s (l ∷ statement t more),
        longer_statement t more,
      )
  longer_statement (Switch k o e c s) more = omega (arith, longer e (c ∷ statement s more), longer_statement s more)
  longer_statement (While k o e c s) more = omega (arith, longer e (c ∷ statement s more), longer_statement s more)
  longer_statement (Do k s l o e c semicolon) more =
      omega (arith, longer_statement s (l ∷ o ∷ written e (c ∷ semicolon ∷ more)), longer e (c ∷ semicolon ∷ more))
  longer_statement (For k o start e semicolon f c s) more =
      omega (
        arith,
        longer_start start (maybe_written e (semicolon ∷ maybe_written f (c ∷ statement s more))),
        longer_maybe e (semicolon ∷ maybe_written f (c ∷ statement s more)),
        longer_maybe f (c ∷ statement s more),
        longer_statement s more,
      )
  longer_statement (Case k e colon s) more = omega (arith, longer e (colon ∷ statement s more), longer_statement s more)
  longer_statement (Default k colon s) more = omega (arith, longer_statement s more)
  longer_statement (Label t colon s) more = omega (arith, longer_statement s more)
  longer_statement (Goto k t semicolon) more = omega arith
  longer_statement (Jump k semicolon) more = omega arith
  longer_statement (Return k semicolon) more = omega arith
  longer_statement (ReturnValue k e semicolon) more = omega (arith, longer e (semicolon ∷ more))

  pub longer_items : (is : BlockItems) (more : List Token) → length more ≤ length (items is more)
  longer_items NoBlockItems more = omega arith
  longer_items (DeclarationItem d rest) more =
      omega (arith, longer_declaration d (items rest more), longer_items rest more)
  longer_items (StatementItem s rest) more = omega (arith, longer_statement s (items rest more), longer_items rest more)

pub longer_external : (x : External) (more : List Token) → suc (length more) ≤ length (external x more)
longer_external (FileDeclaration d) more = longer_declaration d more
longer_external (FunctionDefinition s d o is c) more =
    omega (
      arith,
      longer_specifiers s (declarator d (o ∷ items is (c ∷ more))),
      longer_declarator d (o ∷ items is (c ∷ more)),
      longer_items is (c ∷ more),
    )

-- tokens of which there are more than none
pub not_empty : (ts : List Token) → 1 ≤ length ts → is_empty ts ≡ false
not_empty [] h = absurd (omega (arith, h))
not_empty (t ∷ ts) h = refl
