-- Where the jumps in a statement lead, and what a walk draws of statements where they lead there.
use Rattle.std.specs.Prelude.{◌≡◌, ℕ, nat_eq}
use Rattle.indexmap.specs.IndexMap.{get}
use Rattle.ck_drafts.specs.Drafts.{plain_place}
use Rattle.ck_passages.specs.declared.drawing.Drawing.{Drawing}
use Rattle.ck_prog.specs.Paths.{Path}
use Rattle.ck_prog.specs.TypedBodies.{TypedStatement, TypedItems}
use Rattle.ck_tables.specs.declared.program.Linked.{Linked}
use Rattle.ck_bodies.specs.DrawnStatements.{Targets, draw_statement, draw_items}
use Rattle.ck_bodies.specs.Noting.{named, plain_notes, Finds}
use Rattle.ck_bodies.specs.Walks.{tables, made}
use Rattle.ck_bodies.specs.declared.statements.Jumps.{Jumps}
use Rattle.ck_bodies.specs.declared.walk.BodyWalk.{BodyWalk}

abbrev pub targets : Linked → Jumps → Targets
targets l j =
    record {
      broken = plain_place j.broken.now;
      continued = plain_place j.continued.now;
      returned = plain_place j.returned.now;
      labels = named (plain_notes l j.labels.now.notes.items);
    }

-- a look-up finds the first label of a name
abbrev pub AreFound : Linked → Jumps → Type 0
AreFound l j =
    Finds l j.labels.now.notes.items j.labels.now.notes.items (get nat_eq j.labels.now.first)

-- a statement was drawn
abbrev pub Draws : BodyWalk → Jumps → Path → TypedStatement → Drawing → Drawing → Type 0
Draws w j π s old new = made w new ≡ draw_statement (targets (tables w) j) π s (made w old)

-- items were drawn, from this number on
abbrev pub DrawsItems : BodyWalk → Jumps → Path → ℕ → TypedItems → Drawing → Drawing → Type 0
DrawsItems w j π k is old new = made w new ≡ draw_items (targets (tables w) j) π k is (made w old)
