use Rattle.std.proofs.Common.{length, ◌-◌, ◌+◌}
use Rattle.ck_readers.proofs.Loops.{so_far_step, so_far_stop, so_far_end, no_step, is_step, fuel_step, fuel_end}
use Rattle.ck_readers.specs.SourceView.{words}
use Rattle.ck_declaration_readers.proofs.DeclaredLoop.{declared_go}
use Rattle.ck_declaration_readers.proofs.declarations.more_declared.Goals as goal

pub returns-in-None : goal.returns-in-None
returns-in-None g c d i named valued =
    so_far_stop _ _ _ g.T.BuildingDeclarations.more_declared _ _ _ _ _
    (length c.args.source.now.tokens - c.row._step)
    (length c.args.source.now.tokens - (c.row._step + 1)) (declared_go (words c.args.source.now) d i)
    (fuel_step _ _ _ c.row-test.true c.len-step-end.ensures) (c.row.invariant d i named valued)
    (no_step _ _ _ _ _ _ c.in-None.is (c.in_ok-next_declared.ensures d i named valued))

pub row-preserved : goal.row-preserved
row-preserved g c d i named valued =
    so_far_step _ _ _ _ _ _ _ _ _ (length c.args.source.now.tokens - c.row._step)
    (length c.args.source.now.tokens - (c.row._step + 1)) (declared_go (words c.args.source.now) d i)
    (fuel_step _ _ _ c.row-test.true c.len-step-end.ensures) (c.row.invariant d i named valued)
    (is_step _ _ _ _ _ _ _ c.in-Some.is (c.in_ok-next_declared.ensures d i named valued))

pub returns : goal.returns
returns g c d i named valued =
    so_far_end _ _ _ g.T.BuildingDeclarations.more_declared _ _ _ _ (length c.args.source.now.tokens - c.row._step)
    (declared_go (words c.args.source.now) d i) (fuel_end _ _ _ c.row-test.false c.len-step-end.ensures)
    (c.row.invariant d i named valued)
