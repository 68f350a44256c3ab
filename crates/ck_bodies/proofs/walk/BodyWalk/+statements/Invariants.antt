use Rattle.std.proofs.Common.{◌≡◌, ◌≤◌, ◌+◌, ◌*◌, true, length}
use Rattle.std.specs.Prelude.{max}
use Rattle.std.specs.List.{list_all}
use Rattle.ck_tables.specs.Numbers.{numbers, item_fits}
use Rattle.ck_tables.specs.Program.{body_readings}
use Rattle.ck_tables.specs.StmtTable.{items_of}
use Rattle.ck_bodies.specs.DrawnStatements.{draw_items}
use Rattle.ck_bodies.specs.Jumps.{targets}
use Rattle.ck_bodies.specs.Walks.{tables, made, statement, part_depth, item_depth, items_depth}
use Rattle.ck_bodies.proofs.walk.BodyWalk.+statements.Given as goal

abbrev pub decreases-statement : goal.decreases-statement
decreases-statement l = 16 * l.id.0 + 15

abbrev pub decreases-part : goal.decreases-part
decreases-part l = part_depth l.id.0

abbrev pub decreases-item : goal.decreases-item
decreases-item l = item_depth l.item + 1

abbrev pub decreases-items : goal.decreases-items
decreases-items l = items_depth l.items.now + 2

abbrev pub decreases-block : goal.decreases-block
decreases-block l = items_depth l.items.now + 3

abbrev pub decreases-labelled : goal.decreases-labelled
decreases-labelled l = part_depth l.labelled.0 + 1

abbrev pub decreases-if_only : goal.decreases-if_only
decreases-if_only l = part_depth l.controlled.0 + 1

abbrev pub decreases-if_else : goal.decreases-if_else
decreases-if_else l = max (part_depth l.parts.0.0) (part_depth l.parts.1.0) + 1

abbrev pub decreases-switch : goal.decreases-switch
decreases-switch l = part_depth l.body.0 + 1

abbrev pub decreases-loop_body : goal.decreases-loop_body
decreases-loop_body l = part_depth l.body.0 + 1

abbrev pub decreases-while_loop : goal.decreases-while_loop
decreases-while_loop l = part_depth l.body.0 + 2

abbrev pub decreases-do_loop : goal.decreases-do_loop
decreases-do_loop l = part_depth l.body.0 + 2

abbrev pub decreases-for_loop : goal.decreases-for_loop
decreases-for_loop l = part_depth l.body.0 + 2

abbrev pub invariant-items-rest : goal.invariant-items-rest
invariant-items-rest l =
    let b = body_readings (tables l.self) in
    record {
      known : list_all (item_fits (numbers (tables l.self))) l.rest ≡ true;
      depth : items_depth l.rest ≤ items_depth l.initial.rest;
      is :
          draw_items (targets (tables l.self) l.jumps) l.path 0
          (items_of b (statement (tables l.self)) l.initial.rest) (made l.self l.initial.drawing)
          ≡ draw_items (targets (tables l.self) l.jumps) l.path 0
          (items_of b (statement (tables l.self)) l.rest) (made l.self l.drawing);
    }

abbrev pub decreases-items-rest : goal.decreases-items-rest
decreases-items-rest l = length l.rest
