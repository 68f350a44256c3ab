use Rattle.std.proofs.Common.{length, ◌-◌, ◌+◌}
use Rattle.ck_file_readers.proofs.SameMarks.{same_then}
use Rattle.ck_file_readers.proofs.TypeLists.{types_end, types_step, types_stop}
use Rattle.ck_readers.proofs.Loops.{fuel_end, fuel_step}
use Rattle.ck_file_readers.proofs.types.more_types.Goals as goal

pub returns-in-None-clause-reads : goal.returns-in-None-clause-reads
returns-in-None-clause-reads g c n names =
    types_stop n (g.T.BuildingDeclarations.more_declared c.row.row) c.args.source.now c.row.source c.args.at c.row.here
    (length c.args.source.now.tokens - c.row._step) (length c.args.source.now.tokens - (c.row._step + 1))
    (fuel_step _ _ _ c.row-test.true c.len-step-end.ensures) (c.row.invariant.1 n names)
    g.T.BuildingDeclarations.more_declared c.next_type.new.row c.next_type.new.source c.row.invariant.0
    (rw c.in-None.is at (c.in_ok-next_type.ensures.reads n names))

pub row-preserved : goal.row-preserved
row-preserved g c = (
  same_then c.args.source.now c.row.source c.next_type.new.source c.row.invariant.0 c.in_ok-next_type.ensures.kept,
  λ n names. types_step n (g.T.BuildingDeclarations.more_declared c.row.row) c.args.source.now c.row.source c.args.at
      c.row.here (length c.args.source.now.tokens - c.row._step)
      (length c.args.source.now.tokens - (c.row._step + 1))
      (fuel_step _ _ _ c.row-test.true c.len-step-end.ensures) (c.row.invariant.1 n names)
      (g.T.BuildingDeclarations.more_declared c.next_type.new.row) c.next_type.new.source c.in-Some.next
      c.in_ok-next_type.ensures.kept (rw c.in-Some.is at (c.in_ok-next_type.ensures.reads n names)),
)

pub returns-clause-reads : goal.returns-clause-reads
returns-clause-reads g c n names =
    types_end n g.T.BuildingDeclarations.more_declared c.row.row c.args.source.now c.row.source c.args.at c.row.here
    (length c.args.source.now.tokens - c.row._step) (fuel_end _ _ _ c.row-test.false c.len-step-end.ensures)
    (c.row.invariant.1 n names) c.row.invariant.0
