use Rattle.std.proofs.Common.{drop}
use Rattle.ck_tables.specs.ExprTable.{steps_of}
use Rattle.ck_tables.specs.Program.{readings}
use Rattle.ck_counts.specs.Extents.{extent_of, extent_after_steps}
use Rattle.ck_counts.specs.Weights.{Leads, tree}
use Rattle.ck_counts.proofs.expressions.row.Given as goal

abbrev pub invariant-steps : goal.invariant-steps
invariant-steps l =
    let t = l.program.linked in
    Leads extent_after_steps l.value (steps_of (readings t) (tree t) (drop l.step-index l.steps))
    (extent_after_steps (extent_of (tree t l.fn.primary.0)) (steps_of (readings t) (tree t) l.steps))
