use Rattle.std.proofs.Common.{◌≡◌, ◌≤◌, true, length, drop}
use Rattle.ck_tables.specs.StmtTable.{items_below}
use Rattle.ck_counts.specs.Weights.{IsKnown, StatementsCount}
use Rattle.ck_counts.proofs.statements.count_items.Given as goal

abbrev pub invariant-each : goal.invariant-each
invariant-each l =
    record {
      low : l.left ≤ length l.row;
      known : IsKnown l.program.linked l.known;
      count : StatementsCount l.program.linked l.counted.items;
      there : items_below (length l.counted.items) (drop l.left l.row) ≡ true;
    }

abbrev pub decreases-each : goal.decreases-each
decreases-each l = l.left
