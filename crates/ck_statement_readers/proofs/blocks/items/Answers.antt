use Rattle.std.proofs.Common.{length, ◌-◌, ◌+◌}
use Rattle.ck_readers.proofs.Loops.{so_far_step, so_far_stop, so_far_end, no_step, is_step, fuel_step, fuel_end}
use Rattle.ck_readers.specs.SourceView.{words}
use Rattle.ck_statement_readers.proofs.ItemLoop.{items_go}
use Rattle.ck_statement_readers.proofs.blocks.items.Goals as goal

pub returns-in-None : goal.returns-in-None
returns-in-None g c d s declared stated =
    so_far_stop _ _ _ g.T.BuildingStatements.block_items _ _ _ _ _ (length c.args.source.now.tokens - c.row._step)
    (length c.args.source.now.tokens - (c.row._step + 1)) (items_go (words c.args.source.now) d s)
    (fuel_step _ _ _ c.row-test.true c.len-step-end.ensures) (c.row.invariant d s declared stated)
    (no_step _ _ _ _ _ _ c.in-None.is (c.in_ok-item.ensures d s declared stated))

pub row-preserved : goal.row-preserved
row-preserved g c d s declared stated =
    so_far_step _ _ _ _ _ _ _ _ _ (length c.args.source.now.tokens - c.row._step)
    (length c.args.source.now.tokens - (c.row._step + 1)) (items_go (words c.args.source.now) d s)
    (fuel_step _ _ _ c.row-test.true c.len-step-end.ensures) (c.row.invariant d s declared stated)
    (is_step _ _ _ _ _ _ _ c.in-Some.is (c.in_ok-item.ensures d s declared stated))

pub returns : goal.returns
returns g c d s declared stated =
    so_far_end _ _ _ g.T.BuildingStatements.block_items _ _ _ _ (length c.args.source.now.tokens - c.row._step)
    (items_go (words c.args.source.now) d s) (fuel_end _ _ _ c.row-test.false c.len-step-end.ensures)
    (c.row.invariant d s declared stated)
