use Rattle.std.proofs.Common.{◌≡◌, true, drop}
use Rattle.std.specs.List.{list_all}
use Rattle.ck_call_rows.specs.Walks.{tables, path_of, Leads}
use Rattle.ck_prog.specs.Calls.{calls_in_declarators}
use Rattle.ck_tables.specs.Numbers.{numbers, declarator_fits}
use Rattle.ck_tables.specs.Program.{with_initialisers}
use Rattle.ck_tables.specs.StmtTable.{declarators_of}
use Rattle.ck_call_rows.proofs.walk.Walk.declarators.Given as goal

abbrev pub invariant-each : goal.invariant-each
invariant-each l =
    let b = with_initialisers (tables l.self) in
    record {
      fit : list_all (declarator_fits (numbers (tables l.self))) (drop l.number l.declared) ≡ true;
      is :
          Leads l.self l.initial.rows.rows.items l.rows.rows.items
          (calls_in_declarators (path_of l.path) l.number (declarators_of b (drop l.number l.declared)))
          (calls_in_declarators (path_of l.path) 0 (declarators_of b l.declared));
    }
