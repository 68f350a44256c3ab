use Rattle.std.proofs.Common.{◌≤◌, length, drop}
use Rattle.std.specs.Prelude.{max}
use Rattle.ck_passages.specs.Operands.{AllFit, most_depth}
use Rattle.ck_passages.proofs.OperandLists.{ArePlaced}
use Rattle.ck_passages.proofs.operands.placed.Given as goal

abbrev pub invariant-loop-operand : goal.invariant-loop-operand
invariant-loop-operand l =
    record {
      rest : AllFit l.program.linked (drop l.operand-index l.operands);
      later : AllFit l.program.linked (drop l.taken l.order);
      fit : AllFit l.program.linked l.sequence.items;
      taken : l.taken ≤ length l.order;
      placed :
          ArePlaced l.program.linked l.operands l.order l.sequence.items (drop l.operand-index l.operands)
          (drop l.taken l.order);
      depth : most_depth l.sequence.items ≤ max (most_depth l.operands) (most_depth l.order);
      rest_depth : most_depth (drop l.operand-index l.operands) ≤ most_depth l.operands;
      later_depth : most_depth (drop l.taken l.order) ≤ most_depth l.order;
    }
