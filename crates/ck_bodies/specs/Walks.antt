-- What a walk over a function's body draws.
use Rattle.std.specs.Prelude.{◌≡◌, ◌+◌, ◌*◌, ℕ, List, [], ◌∷◌, max}
use Rattle.ck_passages.specs.Drawing.{draw}
use Rattle.ck_passages.specs.Points.{Drawn, drawn}
use Rattle.ck_passages.specs.declared.drawing.Drawing.{Drawing}
use Rattle.ck_points.specs.Evaluations.{Evaluation}
use Rattle.ck_prog.specs.TypedBodies.{TypedInitialiser, TypedStatement}
use Rattle.ck_tables.specs.InitTable.{init_at}
use Rattle.ck_tables.specs.Program.{with_expressions, body_readings}
use Rattle.ck_tables.specs.StmtTable.{statement_at}
use Rattle.ck_tables.specs.declared.inits.InitId.{InitId}
use Rattle.ck_tables.specs.declared.inits.InitItem.{InitItem}
use Rattle.ck_tables.specs.declared.inits.InitItem.TheVariants as elements
use Rattle.ck_tables.specs.declared.program.Linked.{Linked}
use Rattle.ck_tables.specs.declared.stmts.Item.{Item}
use Rattle.ck_tables.specs.declared.stmts.Item.TheVariants as items
use Rattle.ck_bodies.specs.declared.walk.BodyWalk.{BodyWalk}

abbrev pub tables : BodyWalk → Linked
tables w = w.program.now.linked

abbrev pub made : BodyWalk → Drawing → Drawn
made w d = drawn (tables w) d

-- the trees of numbers
abbrev pub initialiser : Linked → ℕ → TypedInitialiser
initialiser l i = init_at (with_expressions l) l.inits i

abbrev pub statement : Linked → ℕ → TypedStatement
statement l i = statement_at (body_readings l) l.stmts i

-- the initialiser of an element of braces
abbrev pub element_initialiser : InitItem → InitId
element_initialiser (elements.Plain i) = i
element_initialiser (elements.Designated i designation) = i

-- an evaluation was drawn, under no operator
abbrev pub Evaluates : BodyWalk → Evaluation → Drawing → Drawing → Type 0
Evaluates w e old new = made w new ≡ draw [] e (made w old)

-- how deep a walk over items may go: by the numbers of their statements
abbrev pub part_depth : ℕ → ℕ
part_depth i = 16 * i + 16

abbrev pub item_depth : Item → ℕ
item_depth (items.Declaration d) = 0
item_depth (items.Statement s) = part_depth s.0

abbrev pub items_depth : List Item → ℕ
items_depth [] = 0
items_depth (i ∷ is) = max (item_depth i) (items_depth is)
