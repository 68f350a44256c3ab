use Rattle.std.proofs.Common.{◌≡◌, ◌+◌, ◌-◌, ◌<◌, ◌≤◌, length, drop, get_or}
use Rattle.ck_lexer.specs.Scanning.{run_after}
use Rattle.ck_lexer.proofs.numbers.number_length.Given as goal

abbrev pub invariant-loop-length : goal.invariant-loop-length
invariant-loop-length l = record {
  within : l.length ≤ length l.rest;
  some : 0 < l.length;
  so_far : l.length + run_after l.last (drop l.length l.rest) ≡ 1 + run_after (get_or l.rest 0 0) (drop 1 l.rest);
}

abbrev pub decreases-loop-length : goal.decreases-loop-length
decreases-loop-length l = length l.rest - l.length
