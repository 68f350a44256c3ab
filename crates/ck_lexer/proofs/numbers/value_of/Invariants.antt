use Rattle.std.proofs.Common.{◌≡◌, ◌<◌, ◌^◌, take}
use Rattle.ck_base.specs.IntegerConstants.{value_of}
use Rattle.ck_lexer.specs.Scanning.{number_of}
use Rattle.ck_lexer.proofs.numbers.value_of.Given as goal

abbrev pub invariant-loop-digit : goal.invariant-loop-digit
invariant-loop-digit l = record {
  so_far : l.value ≡ value_of (number_of l.base) (take l.digit-index l.digits);
  fits : l.value < 2 ^ 64;
}
