use Rattle.std.proofs.Common.{length, ◌-◌, ◌+◌, arith}
use Rattle.ck_file_readers.proofs.FileLoop.{file_cut, file_done, file_none, file_step}
use Rattle.ck_file_readers.proofs.SameMarks.{same_then}
use Rattle.ck_readers.proofs.Loops.{fuel_end, fuel_step}
use Rattle.ck_file_readers.proofs.files.file.Goals as goal

pub returns-then-len-here-clause-reads : goal.returns-then-len-here-clause-reads
returns-then-len-here-clause-reads g c n specified names values bodies =
    file_done n (g.T.BuildingStatements.unit c.row.row) c.args.source.now c.row.source c.row.here
    (length c.args.source.now.tokens - c.row._step) (c.row.invariant.1 n specified names values bodies)
    (omega (arith, c.if-len-here.true, c.len.ensures))

pub returns-in_default-clause-reads : goal.returns-in_default-clause-reads
returns-in_default-clause-reads g c n specified names values bodies =
    file_none n (g.T.BuildingStatements.unit c.row.row) c.args.source.now c.row.source c.row.here
    (length c.args.source.now.tokens - c.row._step) (c.row.invariant.1 n specified names values bodies)
    (length c.args.source.now.tokens - (c.row._step + 1)) (fuel_step _ _ _ c.row-test.true c.len-step-end.ensures)
    (omega (arith, c.if-len-here.false, c.len.ensures))
    (rw c.in_default.is at (c.in_ok-found.ensures.reads n specified names values bodies))

pub row-preserved : goal.row-preserved
row-preserved g c = (
  same_then c.args.source.now c.row.source c.external.new.source c.row.invariant.0 c.in_ok-found.ensures.kept,
  λ n specified names values bodies. file_step n (g.T.BuildingStatements.unit c.row.row) c.args.source.now
      c.row.source c.row.here (length c.args.source.now.tokens - c.row._step)
      (c.row.invariant.1 n specified names values bodies) (length c.args.source.now.tokens - (c.row._step + 1))
      (fuel_step _ _ _ c.row-test.true c.len-step-end.ensures) (omega (arith, c.if-len-here.false, c.len.ensures))
      g.T.BuildingStatements.external c.in-Some.found c.external.new.source
      (g.T.BuildingStatements.unit c.push_external.new.row) c.in_ok-found.ensures.kept
      (rw c.in-Some.is at (c.in_ok-found.ensures.reads n specified names values bodies)) c.in_ok-push_external.ensures,
)

pub returns-then-here-len-clause-reads : goal.returns-then-here-len-clause-reads
returns-then-here-len-clause-reads g c n specified names values bodies =
    file_cut n (g.T.BuildingStatements.unit c.row.row) c.args.source.now c.row.source c.row.here
    (length c.args.source.now.tokens - c.row._step) (c.row.invariant.1 n specified names values bodies)
    (fuel_end _ _ _ c.row-test.false c.len-step-end.ensures) (omega (arith, c.if-here-len.true, c.len-2.ensures))

pub returns-clause-reads : goal.returns-clause-reads
returns-clause-reads g c n specified names values bodies =
    file_done n (g.T.BuildingStatements.unit c.row.row) c.args.source.now c.row.source c.row.here
    (length c.args.source.now.tokens - c.row._step) (c.row.invariant.1 n specified names values bodies)
    (omega (arith, c.if-here-len.false, c.len-2.ensures))
