use Rattle.std.proofs.Common.{◌≤◌, ◌-◌}
use Rattle.ck_reaching.specs.Joins.{IsClearBetween}
use Rattle.ck_reaching.proofs.sets.FnSet.next.Given as goal

-- no function so far
abbrev pub invariant-numbers : goal.invariant-numbers
invariant-numbers l = record {
  above : l.from ≤ l.number;
  clear : IsClearBetween l.self l.from l.number;
}

abbrev pub decreases-numbers : goal.decreases-numbers
decreases-numbers l = l.end - l.number
