use Rattle.std.proofs.Common.{◌≡◌, length}
use Rattle.ck_flow.proofs.SoFar.{AreSoFar}
use Rattle.ck_kinds.specs.KindedDrafts.{flow_program}
use Rattle.ck_flow.proofs.lowering.all_drafts.Given as goal

abbrev pub invariant-functions : goal.invariant-functions
invariant-functions l =
    record {
      long : length l.all.items ≡ l.number;
      so_far : AreSoFar (flow_program l.program.linked l.program.rows) l.all.items;
    }
