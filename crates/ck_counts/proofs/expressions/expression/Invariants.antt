use Rattle.std.proofs.Common.{◌+◌, ◌-◌, vec_len}
use Rattle.ck_counts.specs.Weights.{AreWeighed}
use Rattle.ck_counts.proofs.expressions.expression.Given as goal

abbrev pub invariant-nodes : goal.invariant-nodes
invariant-nodes l = AreWeighed l.program.linked l.weighed.items

abbrev pub decreases-nodes : goal.decreases-nodes
decreases-nodes l = l.x.0 + 1 - vec_len l.weighed
