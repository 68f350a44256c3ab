use Rattle.std.proofs.Common.{◌≡◌, ◌≤◌, ◌++◌, map, drop}
use Rattle.ck_passages.specs.Operands.{value_of, evaluation_of, AllFit, most_depth}
use Rattle.ck_points.specs.Evaluations.{with_calls}
use Rattle.ck_passages.proofs.operands.calling.Given as goal

abbrev pub invariant-loop-operand : goal.invariant-loop-operand
invariant-loop-operand l =
    record {
      rest : AllFit l.program.linked (drop l.operand-index l.operands);
      fit : AllFit l.program.linked l.found.items;
      calls :
          with_calls (map (value_of l.program.linked) l.operands)
          ≡ map (evaluation_of l.program.linked) l.found.items
          ++ with_calls (map (value_of l.program.linked) (drop l.operand-index l.operands));
      depth : most_depth l.found.items ≤ most_depth l.operands;
      depth_left : most_depth (drop l.operand-index l.operands) ≤ most_depth l.operands;
    }
