use Rattle.std.proofs.Common.{◌+◌, ◌-◌, vec_len}
use Rattle.ck_counts.specs.Weights.{IsKnown}
use Rattle.ck_counts.proofs.initialisers.initialiser.Given as goal

abbrev pub invariant-nodes : goal.invariant-nodes
invariant-nodes l = IsKnown l.program.linked l.known

abbrev pub decreases-nodes : goal.decreases-nodes
decreases-nodes l = l.i.0 + 1 - vec_len l.known.initialisers
