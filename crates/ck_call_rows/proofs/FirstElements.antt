-- The calls of the elements of braces and of the items of a block: those of the first, and then those of the others.
use Rattle.std.proofs.Common.{◌≡◌, ◌<◌, ℕ, suc, true, List, ◌∷◌, ◌++◌, refl, arith}
use Rattle.std.specs.Prelude.{nat_lt}
use Rattle.ck_call_rows.specs.Walks.{initialiser, statement, element_initialiser, calls_of_item}
use Rattle.ck_prog.specs.Calls.{calls_in_initialiser, calls_in_initialisers, calls_in_items}
use Rattle.ck_prog.specs.Paths as part
use Rattle.ck_prog.specs.Paths.{Path, below}
use Rattle.ck_tables.specs.InitTable.{row_of, item_below}
use Rattle.ck_tables.specs.Program.{with_expressions, body_readings}
use Rattle.ck_tables.specs.StmtTable.{items_of}
use Rattle.ck_tables.specs.declared.inits.InitItem.{InitItem}
use Rattle.ck_tables.specs.declared.inits.InitItem.TheVariants as elements
use Rattle.ck_tables.specs.declared.program.Linked.{Linked}
use Rattle.ck_tables.specs.declared.stmts.Item.{Item}
use Rattle.ck_tables.specs.declared.stmts.Item.TheVariants as items

pub element-first : (l : Linked) (π : Path) (k : ℕ) (x : InitItem) (xs : List InitItem)
    → calls_in_initialisers π k (row_of (with_expressions l) (initialiser l) (x ∷ xs))
    ≡ calls_in_initialiser (below π (part.ElementOf k)) (initialiser l (element_initialiser x).0)
    ++ calls_in_initialisers π (suc k) (row_of (with_expressions l) (initialiser l) xs)
element-first l π k (elements.Plain i) xs = refl
element-first l π k (elements.Designated i designation) xs = refl

pub element-below : (n : ℕ) (x : InitItem) → item_below n x ≡ true → (element_initialiser x).0 < n
element-below n (elements.Plain i) h = grind (arith, h)
element-below n (elements.Designated i designation) h = grind (arith, h)

pub item-first : (l : Linked) (π : Path) (k : ℕ) (x : Item) (xs : List Item)
    → calls_in_items π k (items_of (body_readings l) (statement l) (x ∷ xs))
    ≡ calls_of_item l (below π (part.Item k)) x
    ++ calls_in_items π (suc k) (items_of (body_readings l) (statement l) xs)
item-first l π k (items.Declaration d) xs = refl
item-first l π k (items.Statement s) xs = refl
