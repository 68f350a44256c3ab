use Rattle.std.proofs.Common.{◌≡◌, ◌≤◌, ◌+◌, ◌*◌, true, drop}
use Rattle.std.specs.List.{list_all}
use Rattle.std.specs.Prelude.{max}
use Rattle.ck_call_rows.specs.Walks.{tables, statement, path_of, Leads, part_depth, item_depth, items_depth}
use Rattle.ck_prog.specs.Calls.{calls_in_items}
use Rattle.ck_tables.specs.Numbers.{numbers, item_fits}
use Rattle.ck_tables.specs.Program.{body_readings}
use Rattle.ck_tables.specs.StmtTable.{items_of}
use Rattle.ck_call_rows.proofs.walk.Walk.+statements.Given as goal

abbrev pub decreases-statement : goal.decreases-statement
decreases-statement l = 4 * l.id.0 + 3

abbrev pub decreases-inner : goal.decreases-inner
decreases-inner l = part_depth l.id.0

abbrev pub decreases-controlled : goal.decreases-controlled
decreases-controlled l = part_depth l.id.0 + 1

abbrev pub decreases-if_else : goal.decreases-if_else
decreases-if_else l = max (part_depth l.first.0) (part_depth l.second.0) + 1

abbrev pub decreases-do_loop : goal.decreases-do_loop
decreases-do_loop l = part_depth l.body.0 + 1

abbrev pub decreases-for_loop : goal.decreases-for_loop
decreases-for_loop l = part_depth l.body.0 + 1

abbrev pub decreases-item : goal.decreases-item
decreases-item l = item_depth l.item + 1

abbrev pub decreases-items : goal.decreases-items
decreases-items l = items_depth l.items.now + 2

abbrev pub invariant-items-each : goal.invariant-items-each
invariant-items-each l =
    let t = tables l.self in
    record {
      known : list_all (item_fits (numbers t)) (drop l.number l.items) ≡ true;
      depth : items_depth (drop l.number l.items) ≤ items_depth l.items;
      is :
          Leads l.self l.initial.rows.rows.items l.rows.rows.items
          (calls_in_items (path_of l.path) l.number
          (items_of (body_readings t) (statement t) (drop l.number l.items)))
          (calls_in_items (path_of l.path) 0 (items_of (body_readings t) (statement t) l.items));
    }
