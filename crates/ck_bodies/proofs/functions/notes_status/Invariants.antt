use Rattle.std.proofs.Common.{◌≡◌, length}
use Rattle.ck_tables.specs.declared.program.Linked.{Linked}
use Rattle.ck_bodies.specs.Noting.{has_status, plain_notes}
use Rattle.ck_bodies.proofs.functions.notes_status.Given as goal

abbrev pub invariant-rest : goal.invariant-rest
invariant-rest l =
    record {
      is : (t : Linked) → has_status (plain_notes t l.initial.rest) ≡ has_status (plain_notes t l.rest);
    }

abbrev pub decreases-rest : goal.decreases-rest
decreases-rest l = length l.rest
