use Rattle.std.proofs.Common.{◌-◌, ◌≤◌, length}
use Rattle.ck_lexer.specs.Tokens.{AreTokensBetween}
use Rattle.ck_lexer.proofs.lexer.lex.Given as goal

abbrev pub invariant-loop-at : goal.invariant-loop-at
invariant-loop-at l = record {
  within : l.at ≤ length l.bytes;
  cut : AreTokensBetween l.file l.bytes 0 l.tokens.items l.at;
}

abbrev pub decreases-loop-at : goal.decreases-loop-at
decreases-loop-at l = length l.bytes - l.at
