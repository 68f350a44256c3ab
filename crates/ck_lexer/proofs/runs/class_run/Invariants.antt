use Rattle.std.proofs.Common.{◌≡◌, ◌+◌, ◌-◌, ◌≤◌, length, drop}
use Rattle.std.specs.List.{prefix_len}
use Rattle.ck_lexer.specs.Runs.{is_in}
use Rattle.ck_lexer.proofs.runs.class_run.Given as goal

abbrev pub invariant-wide : goal.invariant-wide
invariant-wide l = record {
  begun : l.at ≤ l.end;
  within : l.end ≤ length l.bytes;
  rest : l.at + prefix_len (is_in l.class) (drop l.at l.bytes) ≡ l.end + prefix_len (is_in l.class)
      (drop l.end l.bytes);
}

abbrev pub decreases-wide : goal.decreases-wide
decreases-wide l = length l.bytes - l.end
