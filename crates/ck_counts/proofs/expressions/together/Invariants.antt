use Rattle.std.proofs.Common.{◌≤◌, length, drop}
use Rattle.ck_tables.specs.ExprTable.{arguments_of}
use Rattle.ck_counts.specs.Extents.{extents_of}
use Rattle.ck_counts.specs.Weights.{AreTogether, tree}
use Rattle.ck_counts.proofs.expressions.together.Given as goal

abbrev pub invariant-each : goal.invariant-each
invariant-each l =
    record {
      low : l.left ≤ length l.arguments;
      are : AreTogether l.operands (extents_of (arguments_of (tree l.program.linked) (drop l.left l.arguments)));
    }

abbrev pub decreases-each : goal.decreases-each
decreases-each l = l.left
