use Rattle.std.proofs.Common.{ℕ, ◌<◌}
use Rattle.ck_rows.specs.Relation.{Relates}
use Rattle.ck_summary.specs.Solution.{rows_at}
use Rattle.ck_summary.proofs.solving.clear.Given as goal

-- the points so far have no pair
abbrev pub invariant-loop-rows : goal.invariant-loop-rows
invariant-loop-rows l = (point a b : ℕ) → point < l.rows-index → Relates (rows_at l.table point) a b → ⊥
