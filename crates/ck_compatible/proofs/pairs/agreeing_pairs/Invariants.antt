use Rattle.std.proofs.Common.{◌^◌, ◌-◌}
use Rattle.ck_compatible.specs.Pairs.{AreSettled}
use Rattle.ck_compatible.proofs.pairs.agreeing_pairs.Given as goal

abbrev pub invariant-pairs : goal.invariant-pairs
invariant-pairs l = AreSettled l.types l.fn.a l.fn.b l.at l.pairs.keys

abbrev pub decreases-pairs : goal.decreases-pairs
decreases-pairs l = 2 ^ 63 - l.at
