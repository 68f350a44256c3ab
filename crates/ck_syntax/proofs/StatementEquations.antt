-- The plain tree of each production of statements. Crates above name them all by the ruleset `statement_views`.
use Rattle.std.proofs.Common.{◌≡◌, Box, Vec, refl, ap, ◌∙◌}
use Rattle.ck_base.specs.declared.tokens.Token.{Token}
use Rattle.ck_grammar.specs.Statements as plain
use Rattle.ck_syntax.specs.DeclarationViews.{declaration_tree, for_start_tree}
use Rattle.ck_syntax.specs.ExpressionViews.{expr_tree}
use Rattle.ck_syntax.specs.StatementViews.{statement_tree, item_before, item_row, item_trees, expr_option}
use Rattle.ck_syntax.specs.declared.declarations.Decl.{Decl}
use Rattle.ck_syntax.specs.declared.expressions.Expr.{Expr}
use Rattle.ck_syntax.specs.declared.statements.BlockItem.{BlockItem, DeclarationItem, StatementItem}
use Rattle.ck_syntax.specs.declared.statements.BlockItem.TheBlock as block
use Rattle.ck_syntax.specs.declared.statements.Controlling.{Controlling}
use Rattle.ck_syntax.specs.declared.statements.ForHead.{ForHead}
use Rattle.ck_syntax.specs.declared.statements.Stmt.{Stmt, Block, Empty, ExpressionStatement, If, IfElse, Switch, While}
use Rattle.ck_syntax.specs.declared.statements.Stmt.{Do, For, Case, Default, Label, Goto, Jump, Return, ReturnValue}

item_row-items : {A : Type 0} (n : _) (k : block.Row_of-BlockItem A n)
    → item_row k ≡ item_trees (block.items-the_row-BlockItem A n k)
unfolding statement_tree
item_row-items _ block.end_of-BlockItem = refl
item_row-items {A} _ (block.more_of-BlockItem {n} item others) = ap (item_before item) (item_row-items n others)

item_row-hidden : {A : Type 0} (v : Vec (BlockItem A) A)
    → item_row (block.hidden-the_row-BlockItem-0 A v) ≡ item_trees v.items
item_row-hidden {A} v =
    item_row-items _ (block.hidden-the_row-BlockItem-0 A v) ∙ ap item_trees (block.items_hidden-the_row-BlockItem-0 A v)

pub statement_tree-Block : {A : Type 0} (opening : Token) (items : Vec (BlockItem A) A) (closing : Token)
    → statement_tree (Block opening items closing) ≡ plain.Block opening (item_trees items.items) closing
unfolding statement_tree
statement_tree-Block opening items closing = ap (λ is. plain.Block opening is closing) (item_row-hidden items)

pub statement_tree-Empty : (A : Type 0) (semicolon : Token)
    → statement_tree {A = A} (Empty semicolon) ≡ plain.Empty semicolon
unfolding statement_tree
statement_tree-Empty A semicolon = refl

pub statement_tree-ExpressionStatement : {A : Type 0} (expr : Expr A) (semicolon : Token)
    → statement_tree (ExpressionStatement expr semicolon) ≡ plain.ExpressionStatement (expr_tree expr) semicolon
unfolding statement_tree
statement_tree-ExpressionStatement expr semicolon = refl

pub statement_tree-If : {A : Type 0} (keyword : Token) (test : Box (Controlling A) A) (then : Box (Stmt A) A)
    → statement_tree (If keyword test then) ≡ plain.If keyword test.value.opening (expr_tree test.value.expr)
    test.value.closing (statement_tree then.value)
unfolding statement_tree
statement_tree-If keyword test then = refl

pub statement_tree-IfElse : {A : Type 0} (keyword : Token) (test : Box (Controlling A) A) (then : Box (Stmt A) A)
    (else_keyword : Token) (otherwise : Box (Stmt A) A)
    → statement_tree (IfElse keyword test then else_keyword otherwise)
    ≡ plain.IfElse keyword test.value.opening (expr_tree test.value.expr) test.value.closing
    (statement_tree then.value) else_keyword (statement_tree otherwise.value)
unfolding statement_tree
statement_tree-IfElse keyword test then else_keyword otherwise = refl

pub statement_tree-Switch : {A : Type 0} (keyword : Token) (value : Box (Controlling A) A) (body : Box (Stmt A) A)
    → statement_tree (Switch keyword value body) ≡ plain.Switch keyword value.value.opening
    (expr_tree value.value.expr) value.value.closing (statement_tree body.value)
unfolding statement_tree
statement_tree-Switch keyword value body = refl

pub statement_tree-While : {A : Type 0} (keyword : Token) (test : Box (Controlling A) A) (body : Box (Stmt A) A)
    → statement_tree (While keyword test body) ≡ plain.While keyword test.value.opening (expr_tree test.value.expr)
    test.value.closing (statement_tree body.value)
unfolding statement_tree
statement_tree-While keyword test body = refl

pub statement_tree-Do : {A : Type 0} (keyword : Token) (body : Box (Stmt A) A) (while_keyword : Token)
    (test : Box (Controlling A) A) (semicolon : Token) → statement_tree (Do keyword body while_keyword test semicolon)
    ≡ plain.Do keyword (statement_tree body.value) while_keyword test.value.opening (expr_tree test.value.expr)
    test.value.closing semicolon
unfolding statement_tree
statement_tree-Do keyword body while_keyword test semicolon = refl

pub statement_tree-For : {A : Type 0} (keyword : Token) (head : Box (ForHead A) A) (body : Box (Stmt A) A)
    → statement_tree (For keyword head body) ≡ plain.For keyword head.value.opening
    (for_start_tree head.value.start) (expr_option head.value.test) head.value.semicolon
    (expr_option head.value.step) head.value.closing (statement_tree body.value)
unfolding statement_tree
statement_tree-For keyword head body = refl

pub statement_tree-Case : {A : Type 0} (keyword : Token) (value : Box (Expr A) A) (colon : Token)
    (body : Box (Stmt A) A)
    → statement_tree (Case keyword value colon body)
    ≡ plain.Case keyword (expr_tree value.value) colon (statement_tree body.value)
unfolding statement_tree
statement_tree-Case keyword value colon body = refl

pub statement_tree-Default : {A : Type 0} (keyword : Token) (colon : Token) (body : Box (Stmt A) A)
    → statement_tree (Default keyword colon body) ≡ plain.Default keyword colon (statement_tree body.value)
unfolding statement_tree
statement_tree-Default keyword colon body = refl

pub statement_tree-Label : {A : Type 0} (name : Token) (colon : Token) (body : Box (Stmt A) A)
    → statement_tree (Label name colon body) ≡ plain.Label name colon (statement_tree body.value)
unfolding statement_tree
statement_tree-Label name colon body = refl

pub statement_tree-Goto : (A : Type 0) (keyword : Token) (name : Token) (semicolon : Token)
    → statement_tree {A = A} (Goto keyword name semicolon) ≡ plain.Goto keyword name semicolon
unfolding statement_tree
statement_tree-Goto A keyword name semicolon = refl

pub statement_tree-Jump : (A : Type 0) (keyword : Token) (semicolon : Token)
    → statement_tree {A = A} (Jump keyword semicolon) ≡ plain.Jump keyword semicolon
unfolding statement_tree
statement_tree-Jump A keyword semicolon = refl

pub statement_tree-Return : (A : Type 0) (keyword : Token) (semicolon : Token)
    → statement_tree {A = A} (Return keyword semicolon) ≡ plain.Return keyword semicolon
unfolding statement_tree
statement_tree-Return A keyword semicolon = refl

pub statement_tree-ReturnValue : {A : Type 0} (keyword : Token) (value : Box (Expr A) A) (semicolon : Token)
    → statement_tree (ReturnValue keyword value semicolon)
    ≡ plain.ReturnValue keyword (expr_tree value.value) semicolon
unfolding statement_tree
statement_tree-ReturnValue keyword value semicolon = refl

pub item_before-DeclarationItem : {A : Type 0} (declaration : Box (Decl A) A) (others : plain.BlockItems)
    → item_before (DeclarationItem declaration) others
    ≡ plain.DeclarationItem (declaration_tree declaration.value) others
unfolding statement_tree
item_before-DeclarationItem declaration others = refl

pub item_before-StatementItem : {A : Type 0} (statement : Stmt A) (others : plain.BlockItems)
    → item_before (StatementItem statement) others ≡ plain.StatementItem (statement_tree statement) others
unfolding statement_tree
item_before-StatementItem statement others = refl

pub ruleset statement_views = (
  statement_tree-Block,
  statement_tree-Empty,
  statement_tree-ExpressionStatement,
  statement_tree-If,
  statement_tree-IfElse,
  statement_tree-Switch,
  statement_tree-While,
  statement_tree-Do,
  statement_tree-For,
  statement_tree-Case,
  statement_tree-Default,
  statement_tree-Label,
  statement_tree-Goto,
  statement_tree-Jump,
  statement_tree-Return,
  statement_tree-ReturnValue,
  item_before-DeclarationItem,
  item_before-StatementItem,
)
