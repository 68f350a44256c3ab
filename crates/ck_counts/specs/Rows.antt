-- An item of the rows of tables.
use Rattle.std.specs.Prelude.{ℕ, Bool}
use Rattle.ck_points.specs.Functions.{status_in_declaration, status_in_statement}
use Rattle.ck_prog.specs.TypedBodies.{TypedStatement}
use Rattle.ck_tables.specs.Readings.{BodyReadings}
use Rattle.ck_tables.specs.declared.inits.InitItem.{InitItem}
use Rattle.ck_tables.specs.declared.inits.InitItem.TheVariants as elements
use Rattle.ck_tables.specs.declared.stmts.Item.{Item}
use Rattle.ck_tables.specs.declared.stmts.Item.TheVariants as items
use Rattle.ck_counts.specs.BodyPoints.{declaration_points, statement_points}

-- the initialiser of an item of braces
abbrev pub element_number : InitItem → ℕ
element_number (elements.Plain initialiser) = initialiser.0
element_number (elements.Designated initialiser designation) = initialiser.0

-- the points of an item of a block, and whether it declares the kernel's status; `f` says which tree a number stands
-- for
abbrev pub item_points : BodyReadings → (ℕ → TypedStatement) → Item → ℕ
item_points b f (items.Declaration d) = declaration_points (b.declaration_of d.0)
item_points b f (items.Statement s) = statement_points (f s.0)

abbrev pub item_status : BodyReadings → (ℕ → TypedStatement) → Item → Bool
item_status b f (items.Declaration d) = status_in_declaration (b.declaration_of d.0)
item_status b f (items.Statement s) = status_in_statement (f s.0)
