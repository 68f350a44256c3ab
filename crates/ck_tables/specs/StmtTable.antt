-- Which typed trees the numbers of a table of statements stand for: each node over the trees of the nodes before it.
-- And which a declaration stands for.
use Rattle.std.specs.Prelude.{◌≡◌, ◌<◌, ◌≤◌, ℕ, Bool, true, ◌&&◌, nat_lt}
use Rattle.std.specs.Prelude.{List, [], ◌∷◌, length, Option, Some, None}
use Rattle.ck_prog.specs.TypedBodies as bodies
use Rattle.ck_prog.specs.TypedBodies.{TypedInitialiser, TypedDeclarators, TypedDeclaration, TypedStart}
use Rattle.ck_prog.specs.TypedBodies.{TypedStatement, TypedItems}
use Rattle.ck_prog.specs.TypedTrees.{Typed}
use Rattle.ck_tables.specs.ExprTable.{no_token, parts_of}
use Rattle.ck_tables.specs.Readings.{Readings, BodyReadings, plain_type, plain_value}
use Rattle.ck_tables.specs.Tables.{tree_in, AreOrdered}
use Rattle.ck_tables.specs.declared.exprs.ExprId.{ExprId}
use Rattle.ck_tables.specs.declared.inits.InitId.{InitId}
use Rattle.ck_tables.specs.declared.stmts.Declaration.{Declaration}
use Rattle.ck_tables.specs.declared.stmts.Declared.{Declared}
use Rattle.ck_tables.specs.declared.stmts.DeclaredFacts.{DeclaredFacts}
use Rattle.ck_tables.specs.declared.stmts.Item.{Item}
use Rattle.ck_tables.specs.declared.stmts.Item.TheVariants as items
use Rattle.ck_tables.specs.declared.stmts.Jumping.{Jumping}
use Rattle.ck_tables.specs.declared.stmts.Jumping.TheVariants as jumpings
use Rattle.ck_tables.specs.declared.stmts.Start.{Start}
use Rattle.ck_tables.specs.declared.stmts.Start.TheVariants as starts
use Rattle.ck_tables.specs.declared.stmts.StmtNode.{StmtNode}
use Rattle.ck_tables.specs.declared.stmts.StmtNode.TheVariants as nodes

-- declarations --------------------------------------------------------------------------------------------------------

abbrev pub plain_declared_facts : Readings → DeclaredFacts → bodies.DeclaredFacts
plain_declared_facts w f =
    record { entry = w.entry_of f.entry.0; complete = f.complete; large = f.large; status = f.status }

abbrev pub plain_initialiser : BodyReadings → Option InitId → Option TypedInitialiser
plain_initialiser b None = None
plain_initialiser b (Some i) = Some (b.init_of i.0)

abbrev pub declarators_of : BodyReadings → List Declared → TypedDeclarators
declarators_of b [] = bodies.NoDeclared
declarators_of b (d ∷ ds) =
    bodies.Declared (parts_of b.readings b.expr_of d.written.items) (plain_declared_facts b.readings d.facts)
    (plain_initialiser b d.initialiser) (declarators_of b ds)

abbrev pub plain_declaration : BodyReadings → Declaration → TypedDeclaration
plain_declaration b d =
    bodies.Declaration d.first (parts_of b.readings b.expr_of d.written.items) (declarators_of b d.declared.items)

-- parts of statements -------------------------------------------------------------------------------------------------

abbrev pub plain_start : BodyReadings → Start → TypedStart
plain_start b starts.Empty = bodies.StartEmpty
plain_start b (starts.Expression x) = bodies.StartExpression (b.expr_of x.0)
plain_start b (starts.Declaration d) = bodies.StartDeclaration (b.declaration_of d.0)

abbrev pub plain_expression : BodyReadings → Option ExprId → Option Typed
plain_expression b None = None
plain_expression b (Some x) = Some (b.expr_of x.0)

abbrev pub plain_jumping : Jumping → bodies.Jumping
plain_jumping jumpings.Breaks = bodies.Breaks
plain_jumping jumpings.Continues = bodies.Continues

-- an item of a block, before others; `f` says which tree a number stands for
abbrev pub item_before : BodyReadings → (ℕ → TypedStatement) → Item → TypedItems → TypedItems
item_before b f (items.Declaration d) rest = bodies.DeclarationItem (b.declaration_of d.0) rest
item_before b f (items.Statement s) rest = bodies.StatementItem (f s.0) rest

abbrev pub items_of : BodyReadings → (ℕ → TypedStatement) → List Item → TypedItems
items_of b f [] = bodies.NoItems
items_of b f (i ∷ is) = item_before b f i (items_of b f is)

-- the fold ------------------------------------------------------------------------------------------------------------

-- a node's tree
abbrev pub make : BodyReadings → (ℕ → TypedStatement) → StmtNode → TypedStatement
make b f (nodes.Block first row) = bodies.Block first (items_of b f row.items)
make b f (nodes.Empty first) = bodies.Empty first
make b f (nodes.Expression value) = bodies.ExpressionStatement (b.expr_of value.0)
make b f (nodes.If keyword test controlled) = bodies.If keyword (b.expr_of test.0) (f controlled.0)
make b f (nodes.IfElse keyword test controlled otherwise) =
    bodies.IfElse keyword (b.expr_of test.0) (f controlled.0) (f otherwise.0)
make b f (nodes.Switch keyword value body) = bodies.Switch keyword (b.expr_of value.0) (f body.0)
make b f (nodes.While keyword test body) = bodies.While keyword (b.expr_of test.0) (f body.0)
make b f (nodes.Do keyword body test) = bodies.Do keyword (f body.0) (b.expr_of test.0)
make b f (nodes.For keyword start test step body) =
    bodies.For keyword (plain_start b start) (plain_expression b test) (plain_expression b step) (f body.0)
make b f (nodes.Case keyword in_switch value converted labelled) =
    bodies.Case keyword in_switch (b.expr_of value.0) (plain_value b.readings converted) (f labelled.0)
make b f (nodes.Default keyword in_switch labelled) = bodies.Default keyword in_switch (f labelled.0)
make b f (nodes.Label name text labelled) = bodies.Label name (b.readings.name_of text.0) (f labelled.0)
make b f (nodes.Goto keyword text) = bodies.Goto keyword (b.readings.name_of text.0)
make b f (nodes.Jump keyword to found) = bodies.Jump keyword (plain_jumping to) found
make b f (nodes.Return keyword) = bodies.Return keyword
make b f (nodes.ReturnValue keyword result value) =
    bodies.ReturnValue keyword (plain_type b.readings result) (b.expr_of value.0)

-- what a number stands for that no node has
abbrev pub no_statement : TypedStatement
no_statement = bodies.Empty (no_token)

-- what a number of a table stands for
abbrev pub statement_at : BodyReadings → List StmtNode → ℕ → TypedStatement
statement_at b ns i = tree_in no_statement (make b) ns i

-- which numbers a node names ------------------------------------------------------------------------------------------

abbrev pub item_below : ℕ → Item → Bool
item_below limit (items.Declaration d) = true
item_below limit (items.Statement s) = nat_lt s.0 limit

abbrev pub items_below : ℕ → List Item → Bool
items_below limit [] = true
items_below limit (i ∷ is) = item_below limit i && items_below limit is

-- a node names statements of smaller numbers than this
abbrev pub reads_below : ℕ → StmtNode → Bool
reads_below limit (nodes.Block first row) = items_below limit row.items
reads_below limit (nodes.Empty first) = true
reads_below limit (nodes.Expression value) = true
reads_below limit (nodes.If keyword test controlled) = nat_lt controlled.0 limit
reads_below limit (nodes.IfElse keyword test controlled otherwise) =
    nat_lt controlled.0 limit && nat_lt otherwise.0 limit
reads_below limit (nodes.Switch keyword value body) = nat_lt body.0 limit
reads_below limit (nodes.While keyword test body) = nat_lt body.0 limit
reads_below limit (nodes.Do keyword body test) = nat_lt body.0 limit
reads_below limit (nodes.For keyword start test step body) = nat_lt body.0 limit
reads_below limit (nodes.Case keyword in_switch value converted labelled) = nat_lt labelled.0 limit
reads_below limit (nodes.Default keyword in_switch labelled) = nat_lt labelled.0 limit
reads_below limit (nodes.Label name text labelled) = nat_lt labelled.0 limit
reads_below limit (nodes.Goto keyword text) = true
reads_below limit (nodes.Jump keyword to found) = true
reads_below limit (nodes.Return keyword) = true
reads_below limit (nodes.ReturnValue keyword result value) = true

-- each node names smaller numbers than its own
abbrev pub IsOrdered : List StmtNode → Type 0
IsOrdered ns = AreOrdered reads_below ns

-- A table has this node at this number, and it stands for the node's tree, whatever the other tables' numbers stand
-- for.
pub record IsNode (ns : List StmtNode) (i : ℕ) (n : StmtNode) : Type 0 where
  pub below : reads_below i n ≡ true
  pub tree : (b : BodyReadings) → statement_at b ns i ≡ make b (statement_at b ns) n

-- A table has grown at its end, or not at all: its numbers stay, and stand for what they stood for, alone and in rows.
pub record Keeps (old new : List StmtNode) : Type 0 where
  pub no_less : length old ≤ length new
  pub same : (b : BodyReadings) (i : ℕ) → i < length old → statement_at b new i ≡ statement_at b old i
  pub same_items :
      (b : BodyReadings) (is : List Item) → items_below (length old) is ≡ true
      → items_of b (statement_at b new) is ≡ items_of b (statement_at b old) is
  pub more_items : (is : List Item) → items_below (length old) is ≡ true → items_below (length new) is ≡ true
