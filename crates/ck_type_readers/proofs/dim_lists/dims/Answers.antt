use Rattle.std.proofs.Common.{refl}
use Rattle.ck_grammar.specs.ReadingTypes.{dim_loop}
use Rattle.ck_grammar.specs.Trees as plain
use Rattle.ck_readers.proofs.Loops.{so_far_start}
use Rattle.ck_readers.specs.SourceView.{words}
use Rattle.ck_type_readers.specs.Steps.{dim_step}
use Rattle.ck_type_readers.proofs.Loops.{dims_go, goes_on, stops_here, ends_here}
use Rattle.ck_type_readers.proofs.dim_lists.dims.Goals as goal

pub row-init : goal.row-init
row-init g c size list sizes lists =
    so_far_start plain.NoDims (dim_step (words c.args.source.now) size list)
    (dim_loop (words c.args.source.now) size list) (g.T.Building.dims c.no_dims-row.result)
    c.args.source.now.tokens c.args.at _ c.no_dims-row.ensures refl

pub returns-in-None : goal.returns-in-None
returns-in-None g c size list sizes lists =
    stops_here g.T.Building.dims c.dim.new.row (dims_go (words c.args.source.now) size list)
    c.row-test.true c.len-step-end.ensures (c.row.invariant size list sizes lists)
    (rw c.in-None.is at (c.in_ok-dim.ensures size list sizes lists))

pub row-preserved : goal.row-preserved
row-preserved g c size list sizes lists =
    goes_on (dims_go (words c.args.source.now) size list) c.row-test.true c.len-step-end.ensures
    (c.row.invariant size list sizes lists)
    (rw c.in-Some.is at (c.in_ok-dim.ensures size list sizes lists))

pub returns : goal.returns
returns g c size list sizes lists =
    ends_here g.T.Building.dims c.row.row (dims_go (words c.args.source.now) size list) c.row-test.false
    c.len-step-end.ensures (c.row.invariant size list sizes lists)
