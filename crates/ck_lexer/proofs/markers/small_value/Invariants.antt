use Rattle.std.proofs.Common.{◌≡◌, ◌<◌, ◌^◌, take}
use Rattle.ck_base.specs.IntegerConstants.{value_of}
use Rattle.ck_lexer.proofs.markers.small_value.Given as goal

abbrev pub invariant-loop-byte : goal.invariant-loop-byte
invariant-loop-byte l = record {
  so_far : l.value ≡ value_of 10 (take l.byte-index l.digits);
  small : l.value < 10 ^ l.byte-index;
}
