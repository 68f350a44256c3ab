use Rattle.std.proofs.Common.{◌-◌, ◌≤◌, List, length}
use Rattle.ck_base.specs.declared.tokens.Token.{Token}
use Rattle.ck_lexer.specs.Tokens.{AreTokensBetween}
use Rattle.ck_lexer.proofs.lexer.first_fault.Given as goal

abbrev pub invariant-loop-at : goal.invariant-loop-at
invariant-loop-at l = record {
  within : l.at ≤ length l.bytes;
  read : (tokens : List Token) × AreTokensBetween l.file l.bytes 0 tokens l.at;
}

abbrev pub decreases-loop-at : goal.decreases-loop-at
decreases-loop-at l = length l.bytes - l.at
