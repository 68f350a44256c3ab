use Rattle.std.proofs.Common.{◌≡◌, ◌≤◌, length, take, reverse}
use Rattle.std.specs.List.{find}
use Rattle.ck_lexer.specs.Bytes.{is_no_blank}
use Rattle.ck_lexer.proofs.lexemes.is_clear.Given as goal

abbrev pub invariant-loop-end : goal.invariant-loop-end
invariant-loop-end l = record {
  within : l.end ≤ length l.before;
  last : find is_no_blank (reverse (take l.end l.before)) ≡ find is_no_blank (reverse l.before);
}

abbrev pub decreases-loop-end : goal.decreases-loop-end
decreases-loop-end l = l.end
