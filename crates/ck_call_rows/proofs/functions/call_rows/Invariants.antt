use Rattle.std.proofs.Common.{drop}
use Rattle.ck_call_rows.specs.Walks.{AddedBefore}
use Rattle.ck_call_rows.proofs.functions.call_rows.Given as goal

abbrev pub invariant-each : goal.invariant-each
invariant-each l =
    AddedBefore l.linked l.uses l.rows.rows.items l.number (drop l.number l.bodies) l.bodies
