-- A declaration or statement before some tokens and more is written as it is before the first of them, and then the
-- others.
use Rattle.std.proofs.Common.{◌≡◌, List, [], ◌∷◌, ◌++◌, Option, Some, None, refl, ◌∙◌}
use Rattle.ck_base.specs.declared.tokens.Token.{Token}
use Rattle.ck_grammar.proofs.Appended.{written_appended, specifiers_appended, declarator_appended}
use Rattle.ck_grammar.specs.Statements.{Designators, Init, Inits, Declared, MoreDeclared, Declaration, ForStart}
use Rattle.ck_grammar.specs.Statements.{Statement, BlockItems, Equals, DotName, AtIndex, Value, Braced}
use Rattle.ck_grammar.specs.Statements.{LastInit, NextInit, Plainly, Initialised, NoMoreDeclared, AndPlainly}
use Rattle.ck_grammar.specs.Statements.{AndInitialised, Bare, Declares, StartEmpty, StartExpr, StartDeclaration, Block}
use Rattle.ck_grammar.specs.Statements.{Empty, ExpressionStatement, If, IfElse, Switch, While, Do, For, Case, Default}
use Rattle.ck_grammar.specs.Statements.{Label, Goto, Jump, Return, ReturnValue, NoBlockItems, DeclarationItem}
use Rattle.ck_grammar.specs.Statements.{StatementItem}
use Rattle.ck_grammar.specs.StatementsWritten.{designators, designation, init, inits, more_declared, declared}
use Rattle.ck_grammar.specs.StatementsWritten.{declaration}
use Rattle.ck_grammar.specs.StatementsWritten.{for_start, maybe_written, statement, items}
use Rattle.ck_syntax.proofs.EndLemmas.{closes, last-through}
use Rattle.ck_syntax.specs.Ends.{last_after}
use Rattle.ck_grammar.specs.Trees.{Expr}
use Rattle.ck_grammar.specs.Written.{written, declarator, optional}

optional_appended : (t : Option Token) (us more : List Token) → optional t (us ++ more) ≡ (optional t us ++ more)
optional_appended None us more = refl
optional_appended (Some t) us more = refl

pub designators_appended : (x : Designators) (us more : List Token)
    → designators x (us ++ more) ≡ (designators x us ++ more)
designators_appended (Equals eq) us more = refl
designators_appended (DotName t n rest) us more = rw (designators_appended rest us more) refl
designators_appended (AtIndex o e c rest) us more =
    rw (designators_appended rest us more, written_appended e (c ∷ designators rest us) more) refl

designation_appended : (x : Option Designators) (us more : List Token)
    → designation x (us ++ more) ≡ (designation x us ++ more)
designation_appended None us more = refl
designation_appended (Some ds) us more = designators_appended ds us more

mutual
  pub init_appended : (x : Init) (us more : List Token) → init x (us ++ more) ≡ (init x us ++ more)
  init_appended (Value e) us more = written_appended e us more
  init_appended (Braced o is c) us more = rw (inits_appended is (c ∷ us) more) refl

  pub inits_appended : (x : Inits) (us more : List Token) → inits x (us ++ more) ≡ (inits x us ++ more)
  inits_appended (LastInit ds i comma) us more =
      rw (
        optional_appended comma us more,
        init_appended i (optional comma us) more,
        designation_appended ds (init i (optional comma us)) more,
      ) refl
  inits_appended (NextInit ds i comma rest) us more =
      rw (
        inits_appended rest us more,
        init_appended i (comma ∷ inits rest us) more,
        designation_appended ds (init i (comma ∷ inits rest us)) more,
      ) refl

more_declared_appended : (x : MoreDeclared) (us more : List Token)
    → more_declared x (us ++ more) ≡ (more_declared x us ++ more)
more_declared_appended NoMoreDeclared us more = refl
more_declared_appended (AndPlainly comma d rest) us more =
    rw (more_declared_appended rest us more, declarator_appended d (more_declared rest us) more) refl
more_declared_appended (AndInitialised comma d eq i rest) us more =
    rw (
      more_declared_appended rest us more,
      init_appended i (more_declared rest us) more,
      declarator_appended d (eq ∷ init i (more_declared rest us)) more,
    ) refl

pub declared_appended : (x : Declared) (us more : List Token) → declared x (us ++ more) ≡ (declared x us ++ more)
declared_appended (Plainly rest) us more = more_declared_appended rest us more
declared_appended (Initialised eq i rest) us more =
    rw (more_declared_appended rest us more, init_appended i (more_declared rest us) more) refl

pub declaration_appended : (x : Declaration) (us more : List Token)
    → declaration x (us ++ more) ≡ (declaration x us ++ more)
declaration_appended (Bare s semicolon) us more = specifiers_appended s (semicolon ∷ us) more
declaration_appended (Declares s d rest semicolon) us more =
    rw (
      declared_appended rest (semicolon ∷ us) more,
      declarator_appended d (declared rest (semicolon ∷ us)) more,
      specifiers_appended s (declarator d (declared rest (semicolon ∷ us))) more,
    ) refl

pub for_start_appended : (x : ForStart) (us more : List Token) → for_start x (us ++ more) ≡ (for_start x us ++ more)
for_start_appended (StartEmpty semicolon) us more = refl
for_start_appended (StartExpr e semicolon) us more = written_appended e (semicolon ∷ us) more
for_start_appended (StartDeclaration d) us more = declaration_appended d us more

pub maybe_written_appended : (x : Option Expr) (us more : List Token)
    → maybe_written x (us ++ more) ≡ (maybe_written x us ++ more)
maybe_written_appended None us more = refl
maybe_written_appended (Some e) us more = written_appended e us more

mutual
  pub statement_appended : (x : Statement) (us more : List Token)
      → statement x (us ++ more) ≡ (statement x us ++ more)
  statement_appended (Block o is c) us more = rw (items_appended is (c ∷ us) more) refl
  statement_appended (Empty semicolon) us more = refl
  statement_appended (ExpressionStatement e semicolon) us more = written_appended e (semicolon ∷ us) more
  statement_appended (If k o e c s) us more =
      rw (statement_appended s us more, written_appended e (c ∷ statement s us) more) refl
  statement_appended (IfElse k o e c s l t) us more =
      rw (
        statement_appended t us more,
        statement_appended s (l ∷ statement t us) more,
        written_appended e (c ∷ statement s (l ∷ statement t us)) more,
      ) refl
  statement_appended (Switch k o e c s) us more =
      rw (statement_appended s us more, written_appended e (c ∷ statement s us) more) refl
  statement_appended (While k o e c s) us more =
      rw (statement_appended s us more, written_appended e (c ∷ statement s us) more) refl
  statement_appended (Do k s l o e c semicolon) us more =
      rw (
        written_appended e (c ∷ semicolon ∷ us) more,
        statement_appended s (l ∷ o ∷ written e (c ∷ semicolon ∷ us)) more,
      ) refl
  statement_appended (For k o start e semicolon f c s) us more =
      rw (
        statement_appended s us more,
        maybe_written_appended f (c ∷ statement s us) more,
        maybe_written_appended e (semicolon ∷ maybe_written f (c ∷ statement s us)) more,
        for_start_appended start (maybe_written e (semicolon ∷ maybe_written f (c ∷ statement s us))) more,
      ) refl
  statement_appended (Case k e colon s) us more =
      rw (statement_appended s us more, written_appended e (colon ∷ statement s us) more) refl
  statement_appended (Default k colon s) us more = rw (statement_appended s us more) refl
  statement_appended (Label t colon s) us more = rw (statement_appended s us more) refl
  statement_appended (Goto k t semicolon) us more = refl
  statement_appended (Jump k semicolon) us more = refl
  statement_appended (Return k semicolon) us more = refl
  statement_appended (ReturnValue k e semicolon) us more = rw (written_appended e (semicolon ∷ us) more) refl

  pub items_appended : (x : BlockItems) (us more : List Token) → items x (us ++ more) ≡ (items x us ++ more)
  items_appended NoBlockItems us more = refl
  items_appended (DeclarationItem d rest) us more =
      rw (items_appended rest us more, declaration_appended d (items rest us) more) refl
  items_appended (StatementItem s rest) us more =
      rw (items_appended rest us more, statement_appended s (items rest us) more) refl

-- the last token of what `for` has in its parentheses and more tokens
pub last-for : (t : Option Token) (start : ForStart) (test : Option Expr) (semicolon : Token) (step : Option Expr)
    (closing : Token) (more : List Token)
    → last_after t (for_start start (maybe_written test (semicolon ∷ maybe_written step (closing ∷ more))))
    ≡ last_after (Some closing) more
last-for t start test semicolon step closing more =
    last-through (for_start start) (for_start_appended start) t
    (maybe_written test (semicolon ∷ maybe_written step (closing ∷ more)))
    ∙ closes (maybe_written test) (maybe_written_appended test) (last_after t (for_start start [])) semicolon
    (maybe_written step (closing ∷ more))
    ∙ closes (maybe_written step) (maybe_written_appended step) (Some semicolon) closing more
