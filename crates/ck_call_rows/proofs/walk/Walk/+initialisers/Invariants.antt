use Rattle.std.proofs.Common.{◌≡◌, ◌+◌, ◌*◌, true, drop}
use Rattle.ck_call_rows.specs.Walks.{tables, initialiser, path_of, Leads}
use Rattle.ck_prog.specs.Calls.{calls_in_initialisers}
use Rattle.ck_tables.specs.InitTable.{row_of, row_below}
use Rattle.ck_tables.specs.Program.{with_expressions}
use Rattle.ck_call_rows.proofs.walk.Walk.+initialisers.Given as goal

abbrev pub decreases-initialiser : goal.decreases-initialiser
decreases-initialiser l = 2 * l.id.0 + 1

abbrev pub decreases-elements : goal.decreases-elements
decreases-elements l = 2 * l.of.0

abbrev pub invariant-elements-each : goal.invariant-elements-each
invariant-elements-each l =
    let t = tables l.self in
    record {
      below : row_below l.fn.of.0 (drop l.number l.row) ≡ true;
      is :
          Leads l.self l.initial.rows.rows.items l.rows.rows.items
          (calls_in_initialisers (path_of l.path) l.number
          (row_of (with_expressions t) (initialiser t) (drop l.number l.row)))
          (calls_in_initialisers (path_of l.path) 0 (row_of (with_expressions t) (initialiser t) l.row));
    }
