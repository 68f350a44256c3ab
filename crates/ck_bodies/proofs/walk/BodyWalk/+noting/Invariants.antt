use Rattle.std.proofs.Common.{◌≡◌, ◌≤◌, ◌+◌, ◌*◌, ◌++◌, [], true, length, drop}
use Rattle.std.specs.List.{list_all}
use Rattle.ck_tables.specs.Numbers.{numbers, item_fits}
use Rattle.ck_tables.specs.Program.{body_readings}
use Rattle.ck_tables.specs.StmtTable.{items_of}
use Rattle.ck_bodies.specs.Noting.{notes_from, notes_fit, plain_notes}
use Rattle.ck_bodies.specs.Walks.{tables, statement, part_depth, item_depth, items_depth}
use Rattle.ck_bodies.proofs.walk.BodyWalk.+noting.Given as goal

abbrev pub decreases-note_statement : goal.decreases-note_statement
decreases-note_statement l = 16 * l.id.0 + 15

abbrev pub decreases-note_part : goal.decreases-note_part
decreases-note_part l = part_depth l.part.0

abbrev pub decreases-note_item : goal.decreases-note_item
decreases-note_item l = item_depth l.item + 1

abbrev pub decreases-note_items : goal.decreases-note_items
decreases-note_items l = items_depth l.items.now + 2

abbrev pub invariant-note_items-loop-number : goal.invariant-note_items-loop-number
invariant-note_items-loop-number l =
    let b = body_readings (tables l.self) in
    record {
      known : list_all (item_fits (numbers (tables l.self))) (drop l.number l.items) ≡ true;
      depth : items_depth (drop l.number l.items) ≤ items_depth l.items;
      fit : notes_fit (tables l.self) l.notes.items ≡ true;
      is :
          plain_notes (tables l.self) l.initial.notes.items
          ++ notes_from l.all l.path 0 (items_of b (statement (tables l.self)) l.items)
          ≡ plain_notes (tables l.self) l.notes.items
          ++ notes_from l.all l.path l.number (items_of b (statement (tables l.self)) (drop l.number l.items));
    }
