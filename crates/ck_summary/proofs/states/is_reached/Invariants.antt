use Rattle.std.proofs.Common.{ℕ, ◌<◌}
use Rattle.ck_rows.specs.Relation.{Relates}
use Rattle.ck_summary.proofs.states.is_reached.Given as goal

abbrev pub invariant-loop-from : goal.invariant-loop-from
invariant-loop-from l = (k : ℕ) → k < l.from → Relates l.rows k l.to → ⊥
