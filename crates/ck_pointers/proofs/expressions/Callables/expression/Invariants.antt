use Rattle.std.proofs.Common.{◌+◌, ◌-◌, vec_len}
use Rattle.ck_pointers.specs.ExpressionSources.{AreMade}
use Rattle.ck_pointers.proofs.expressions.Callables.expression.Given as goal

abbrev pub invariant-nodes : goal.invariant-nodes
invariant-nodes l = AreMade l.self l.initial.sources.items l.sources.items l.initial.rules l.rules

abbrev pub decreases-nodes : goal.decreases-nodes
decreases-nodes l = l.x.0 + 1 - vec_len l.sources
