use Rattle.std.proofs.Common.{◌≤◌, length, drop}
use Rattle.ck_tables.specs.Program.{with_initialisers}
use Rattle.ck_tables.specs.StmtTable.{declarators_of}
use Rattle.ck_counts.specs.Weights.{AreDeclared, IsKnown}
use Rattle.ck_counts.proofs.declarations.all_declared.Given as goal

abbrev pub invariant-each : goal.invariant-each
invariant-each l =
    record {
      low : l.left ≤ length l.row;
      known : IsKnown l.program.linked l.known;
      are : AreDeclared l.all (declarators_of (with_initialisers l.program.linked) (drop l.left l.row));
    }

abbrev pub decreases-each : goal.decreases-each
decreases-each l = l.left
