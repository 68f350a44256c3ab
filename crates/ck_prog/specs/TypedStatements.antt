-- The typed tree of a statement at a place, and the place after it (C99 6.8). The statements of a body are in a scope;
-- `if`, `switch`, `while`, `do` and `for` are scopes of their own, and so are the statements in them (6.8.4, 6.8.5).
use Rattle.std.specs.Prelude.{ℤ, Bool, true, ◌||◌, Option, Some, None, if◌then◌else◌}
use Rattle.ck_base.specs.declared.tokens.Token.{Token}
use Rattle.ck_grammar.specs.Statements as tree
use Rattle.ck_grammar.specs.Statements.{ForStart, Statement, BlockItems, Block, Empty, ExpressionStatement, If, IfElse}
use Rattle.ck_grammar.specs.Statements.{Switch, While, Do, For, Case, Default, Goto, Jump, Return, ReturnValue}
use Rattle.ck_grammar.specs.Statements.{NoBlockItems, DeclarationItem, StatementItem, StartEmpty, StartExpr}
use Rattle.ck_grammar.specs.Statements.{StartDeclaration}
use Rattle.ck_grammar.specs.Trees.{Expr}
use Rattle.ck_types.specs.IntegerTypes.{converted, promoted}
use Rattle.ck_types.specs.Types.{CType, Integer}
use Rattle.ck_prog.specs.Declarations.{Label, Place, text, is_written, declaring, inside, outside}
use Rattle.ck_prog.specs.Senses.{Constancy, Known, Sense, value_type}
use Rattle.ck_prog.specs.TypedBodies as typed
use Rattle.ck_prog.specs.TypedBodies.{TypedStatement, TypedItems, TypedStart, Jumping, Breaks, Continues, NoItems}
use Rattle.ck_prog.specs.TypedDeclarations.{after_declaration, typed_declaration}
use Rattle.ck_prog.specs.TypedExpressions.{typed_expression}
use Rattle.ck_prog.specs.TypedTrees.{Typed}
use Rattle.ck_prog.specs.Typing.{sense, after}
use Rattle.ck_prog.specs.declared.operators.Role.TheVariants.{Value}

-- what is around a statement
pub record Enclosing : Type 0 where
  -- the result of the function, if it isn't missing
  pub result : Option CType
  pub loop : Bool
  -- the innermost `switch`, and the promoted type of its expression, if that is an integer
  pub switch : Bool
  pub labels : Option CType

abbrev pub in_loop : Enclosing → Enclosing
in_loop around = record around { loop = true }

-- 6.8.4.2: the integer promotions are performed on the controlling expression
abbrev pub promoted_type : Option CType → Option CType
promoted_type (Some (Integer t)) = Some (Integer (promoted t))
promoted_type _ = None

abbrev pub in_switch : Enclosing → Sense → Enclosing
in_switch around s = record around { switch = true; labels = promoted_type (value_type s) }

-- 6.8.4.2: the value of a label is converted to that type
abbrev pub label_value : Option CType → Constancy → Option ℤ
label_value (Some (Integer t)) (Known v) = Some (converted t v)
label_value _ _ = None

-- 6.8.6.2, 6.8.6.3
abbrev pub jumping : Place → Token → Jumping
jumping p keyword = if is_written p keyword "break" then Breaks else Continues

abbrev pub has_target : Enclosing → Jumping → Bool
has_target around Breaks = around.loop || around.switch
has_target around Continues = around.loop

-- the place after ----------------------------------------------------------------------------------------------------

abbrev pub after_maybe : Place → Option Expr → Place
after_maybe p None = p
after_maybe p (Some e) = after p e

abbrev pub after_start : Place → ForStart → Place
after_start p (StartEmpty semicolon) = p
after_start p (StartExpr e semicolon) = after p e
after_start p (StartDeclaration d) = after_declaration p d

-- where the statement in a `for` begins
abbrev pub at_for : Place → ForStart → Option Expr → Option Expr → Place
at_for p start test step = after_maybe (after_maybe (after_start p start) test) step

-- 6.8.1: a label's name is in sight in the whole function, whatever its scope is here
abbrev pub with_label : Place → Token → Place
with_label p name = declaring p (text p name) name Label

abbrev mutual
  pub after_statement : Place → Statement → Place
  after_statement p (Block opening is closing) = outside p (after_items (inside p) is)
  after_statement p (Empty semicolon) = p
  after_statement p (ExpressionStatement e semicolon) = after p e
  after_statement p (If keyword opening e closing s) = outside p (after_statement (inside (after (inside p) e)) s)
  after_statement p (IfElse keyword opening e closing s otherwise t) =
      let q = after (inside p) e in
      let r = outside q (after_statement (inside q) s) in
      outside p (after_statement (inside r) t)
  after_statement p (Switch keyword opening e closing s) =
      outside p (after_statement (inside (after (inside p) e)) s)
  after_statement p (While keyword opening e closing s) =
      outside p (after_statement (inside (after (inside p) e)) s)
  after_statement p (Do keyword s while opening e closing semicolon) =
      let q = inside p in outside p (after (outside q (after_statement (inside q) s)) e)
  after_statement p (For keyword opening start test semicolon step closing s) =
      outside p (after_statement (inside (at_for (inside p) start test step)) s)
  after_statement p (Case keyword e colon s) = after_statement (after p e) s
  after_statement p (Default keyword colon s) = after_statement p s
  after_statement p (tree.Label name colon s) = after_statement (with_label p name) s
  after_statement p (Goto keyword name semicolon) = p
  after_statement p (Jump keyword semicolon) = p
  after_statement p (Return keyword semicolon) = p
  after_statement p (ReturnValue keyword e semicolon) = after p e

  pub after_items : Place → BlockItems → Place
  after_items p NoBlockItems = p
  after_items p (DeclarationItem d rest) = after_items (after_declaration p d) rest
  after_items p (StatementItem s rest) = after_items (after_statement p s) rest

-- typed trees --------------------------------------------------------------------------------------------------------

abbrev pub typed_maybe : Place → Option Expr → Option Typed
typed_maybe p None = None
typed_maybe p (Some e) = Some (typed_expression p Value e)

abbrev pub typed_start : Place → ForStart → TypedStart
typed_start p (StartEmpty semicolon) = typed.StartEmpty
typed_start p (StartExpr e semicolon) = typed.StartExpression (typed_expression p Value e)
typed_start p (StartDeclaration d) = typed.StartDeclaration (typed_declaration p d)

abbrev mutual
  pub typed_statement : Place → Enclosing → Statement → TypedStatement
  typed_statement p around (Block opening is closing) = typed.Block opening (typed_items (inside p) around is)
  typed_statement p around (Empty semicolon) = typed.Empty semicolon
  typed_statement p around (ExpressionStatement e semicolon) = typed.ExpressionStatement (typed_expression p Value e)
  typed_statement p around (If keyword opening e closing s) =
      let q = inside p in
      typed.If keyword (typed_expression q Value e) (typed_statement (inside (after q e)) around s)
  typed_statement p around (IfElse keyword opening e closing s otherwise t) =
      let q = after (inside p) e in
      let r = outside q (after_statement (inside q) s) in
      typed.IfElse keyword (typed_expression (inside p) Value e) (typed_statement (inside q) around s)
      (typed_statement (inside r) around t)
  typed_statement p around (Switch keyword opening e closing s) =
      let q = inside p in
      typed.Switch keyword (typed_expression q Value e)
      (typed_statement (inside (after q e)) (in_switch around (sense q e)) s)
  typed_statement p around (While keyword opening e closing s) =
      let q = inside p in
      typed.While keyword (typed_expression q Value e) (typed_statement (inside (after q e)) (in_loop around) s)
  typed_statement p around (Do keyword s while opening e closing semicolon) =
      let q = inside p in
      let r = outside q (after_statement (inside q) s) in
      typed.Do keyword (typed_statement (inside q) (in_loop around) s) (typed_expression r Value e)
  typed_statement p around (For keyword opening start test semicolon step closing s) =
      let q = inside p in
      let at_test = after_start q start in
      let at_step = after_maybe at_test test in
      typed.For keyword (typed_start q start) (typed_maybe at_test test) (typed_maybe at_step step)
      (typed_statement (inside (after_maybe at_step step)) (in_loop around) s)
  typed_statement p around (Case keyword e colon s) =
      typed.Case keyword around.switch (typed_expression p Value e) (label_value around.labels (sense p e).constancy)
      (typed_statement (after p e) around s)
  typed_statement p around (Default keyword colon s) =
      typed.Default keyword around.switch (typed_statement p around s)
  typed_statement p around (tree.Label name colon s) =
      typed.Label name (text p name) (typed_statement (with_label p name) around s)
  typed_statement p around (Goto keyword name semicolon) = typed.Goto keyword (text p name)
  typed_statement p around (Jump keyword semicolon) =
      typed.Jump keyword (jumping p keyword) (has_target around (jumping p keyword))
  typed_statement p around (Return keyword semicolon) = typed.Return keyword
  typed_statement p around (ReturnValue keyword e semicolon) =
      typed.ReturnValue keyword around.result (typed_expression p Value e)

  pub typed_items : Place → Enclosing → BlockItems → TypedItems
  typed_items p around NoBlockItems = NoItems
  typed_items p around (DeclarationItem d rest) =
      typed.DeclarationItem (typed_declaration p d) (typed_items (after_declaration p d) around rest)
  typed_items p around (StatementItem s rest) =
      typed.StatementItem (typed_statement p around s) (typed_items (after_statement p s) around rest)
