use Rattle.std.proofs.Common.{◌≡◌, ℕ, ◌<◌, length, get_or}
use Rattle.ck_summary.proofs.worklist.numbers_below.Given as goal

-- the numbers so far
abbrev pub invariant-loop-number : goal.invariant-loop-number
invariant-loop-number l = record {
  length : length l.numbers.items ≡ l.number;
  each : (k : ℕ) → k < l.number → get_or l.numbers.items k 0 ≡ k;
}
