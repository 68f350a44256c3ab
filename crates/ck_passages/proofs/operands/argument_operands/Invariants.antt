use Rattle.std.proofs.Common.{◌≡◌, ◌≤◌, ◌++◌, true, length, map, drop}
use Rattle.ck_passages.specs.Operands.{value_of, argument_values, arguments_depth, AllFit, most_depth}
use Rattle.ck_tables.specs.ExprTable.{arguments_below}
use Rattle.ck_tables.specs.declared.program.Linked.{Linked}
use Rattle.ck_passages.proofs.operands.argument_operands.Given as goal

abbrev pub invariant-loop-number : goal.invariant-loop-number
invariant-loop-number l =
    record {
      fit :
          (t : Linked) → arguments_below (length t.exprs) l.arguments ≡ true →
          AllFit t l.operands.items × (arguments_below (length t.exprs) (drop l.number l.arguments) ≡ true);
      values :
          (t : Linked) → argument_values t l.here 0 l.arguments
          ≡ map (value_of t) l.operands.items ++ argument_values t l.here l.number (drop l.number l.arguments);
      depth : most_depth l.operands.items ≤ arguments_depth l.arguments;
      depth_left : arguments_depth (drop l.number l.arguments) ≤ arguments_depth l.arguments;
    }
