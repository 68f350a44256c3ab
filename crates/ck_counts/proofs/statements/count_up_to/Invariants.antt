use Rattle.std.proofs.Common.{◌≤◌, ◌+◌, ◌-◌, length, vec_len}
use Rattle.ck_counts.specs.Weights.{IsKnown, StatementsCount}
use Rattle.ck_counts.proofs.statements.count_up_to.Given as goal

abbrev pub invariant-nodes : goal.invariant-nodes
invariant-nodes l =
    record {
      known : IsKnown l.program.linked l.known;
      count : StatementsCount l.program.linked l.counted.items;
      more : length l.initial.counted.items ≤ length l.counted.items;
    }

abbrev pub decreases-nodes : goal.decreases-nodes
decreases-nodes l = l.s.0 + 1 - vec_len l.counted
