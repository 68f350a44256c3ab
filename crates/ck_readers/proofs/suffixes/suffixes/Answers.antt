use Rattle.std.proofs.Common.{length, ◌-◌, ◌+◌}
use Rattle.ck_readers.proofs.ExpressionLoops.{suffix_loop_is}
use Rattle.ck_readers.proofs.Loops.{so_far_step, so_far_stop, so_far_end, no_step, is_step, fuel_step, fuel_end}
use Rattle.ck_readers.specs.SourceView.{words}
use Rattle.ck_readers.proofs.suffixes.suffixes.Goals as goal

pub returns-in-None : goal.returns-in-None
returns-in-None g c inner reads =
    so_far_stop _ _ _ g.T.Building.suffixes _ _ _ _ _ (length c.args.source.now.tokens - c.suffixes._step)
    (length c.args.source.now.tokens - (c.suffixes._step + 1)) (suffix_loop_is (words c.args.source.now) inner)
    (fuel_step _ _ _ c.suffixes-test.true c.len-step-end.ensures) (c.suffixes.invariant inner reads)
    (no_step _ _ _ _ _ _ c.in-None.is (c.in_ok-suffix.ensures inner reads))

pub suffixes-preserved : goal.suffixes-preserved
suffixes-preserved g c inner reads =
    so_far_step _ _ _ _ _ _ _ _ _ (length c.args.source.now.tokens - c.suffixes._step)
    (length c.args.source.now.tokens - (c.suffixes._step + 1)) (suffix_loop_is (words c.args.source.now) inner)
    (fuel_step _ _ _ c.suffixes-test.true c.len-step-end.ensures) (c.suffixes.invariant inner reads)
    (is_step _ _ _ _ _ _ _ c.in-Some.is (c.in_ok-suffix.ensures inner reads))

pub returns : goal.returns
returns g c inner reads =
    so_far_end _ _ _ g.T.Building.suffixes _ _ _ _ (length c.args.source.now.tokens - c.suffixes._step)
    (suffix_loop_is (words c.args.source.now) inner) (fuel_end _ _ _ c.suffixes-test.false c.len-step-end.ensures)
    (c.suffixes.invariant inner reads)
