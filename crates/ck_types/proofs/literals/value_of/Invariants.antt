use Rattle.std.proofs.Common.{◌≡◌, ◌<◌, ◌^◌, take}
use Rattle.ck_base.specs.IntegerConstants.{value_of}
use Rattle.ck_types.proofs.literals.value_of.Given as goal

abbrev pub invariant-loop-byte : goal.invariant-loop-byte
invariant-loop-byte l = record {
  so_far : l.value ≡ value_of l.base (take l.byte-index l.digits);
  fits : l.value < 2 ^ 64;
}
