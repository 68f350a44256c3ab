use Rattle.std.proofs.Common.{refl}
use Rattle.ck_grammar.specs.ReadingTypes.{more_loop}
use Rattle.ck_grammar.specs.Trees as plain
use Rattle.ck_readers.proofs.Loops.{so_far_start}
use Rattle.ck_readers.specs.SourceView.{words}
use Rattle.ck_type_readers.specs.Steps.{more_step}
use Rattle.ck_type_readers.proofs.Loops.{goes_on, ends_here}
use Rattle.ck_type_readers.proofs.ParamLoops.{more_go, more_param, more_ends, no_end}
use Rattle.ck_type_readers.proofs.param_lists.more_params.Goals as goal

pub row-init : goal.row-init
row-init g c of inner specified declared =
    so_far_start plain.NoMore (more_step (words c.args.source.now) of inner)
    (more_loop (words c.args.source.now) of inner) (g.T.Building.more_params c.no_more_params-row.result)
    c.args.source.now.tokens c.args.at _ c.no_more_params-row.ensures refl

pub returns-in-None : goal.returns-in-None
returns-in-None g c of inner specified declared =
    more_ends (words c.args.source.now) of inner g.T.Building.more_params c.next_param.new.row c.row-test.true
    c.len-step-end.ensures (c.row.invariant of inner specified declared)
    (rw c.in-None.is at (c.in_ok-next_param.ensures of inner specified declared)) c.with_ellipsis.result.0.0
    c.with_ellipsis.result.0.1 c.with_ellipsis.result.1 c.with_ellipsis.ensures.same c.with_ellipsis.ensures.marks

pub row-preserved : goal.row-preserved
row-preserved g c of inner specified declared =
    goes_on (more_go (words c.args.source.now) of inner) c.row-test.true c.len-step-end.ensures
    (c.row.invariant of inner specified declared) (more_param (words c.args.source.now) of inner
    (rw c.in-Some.is at (c.in_ok-next_param.ensures of inner specified declared)))

pub returns : goal.returns
returns g c of inner specified declared =
    no_end (words c.args.source.now) of inner g.T.Building.more_params (ends_here g.T.Building.more_params c.row.row
    (more_go (words c.args.source.now) of inner) c.row-test.false c.len-step-end.ensures
    (c.row.invariant of inner specified declared))
