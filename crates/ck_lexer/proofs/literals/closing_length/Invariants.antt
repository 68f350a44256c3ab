use Rattle.std.proofs.Common.{◌≡◌, ◌-◌, ◌≤◌, length, drop}
use Rattle.ck_lexer.specs.Scanning.{closing, moved_by}
use Rattle.ck_lexer.proofs.literals.closing_length.Given as goal

abbrev pub invariant-loop-length : goal.invariant-loop-length
invariant-loop-length l = record {
  within : l.length ≤ length l.text;
  so_far : moved_by l.length (closing l.quote (drop l.length l.text)) ≡ closing l.quote l.text;
}

abbrev pub decreases-loop-length : goal.decreases-loop-length
decreases-loop-length l = length l.text - l.length
