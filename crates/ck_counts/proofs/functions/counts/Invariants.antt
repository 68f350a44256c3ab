use Rattle.std.proofs.Common.{take}
use Rattle.ck_counts.specs.Weights.{IsKnown, StatementsCount}
use Rattle.ck_numbering.specs.Counts.{AreCounts}
use Rattle.ck_tables.specs.Program.{functions}
use Rattle.ck_counts.proofs.functions.counts.Given as goal

abbrev pub invariant-functions : goal.invariant-functions
invariant-functions l =
    record {
      known : IsKnown l.program.linked l.known;
      count : StatementsCount l.program.linked l.counted.items;
      are : AreCounts (take l.index (functions l.program.linked)) l.counts.items;
    }
