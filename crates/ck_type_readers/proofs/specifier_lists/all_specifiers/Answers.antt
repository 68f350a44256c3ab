use Rattle.ck_readers.specs.SourceView.{words}
use Rattle.ck_type_readers.proofs.SpecifierLoops.{starts, goes_on, stopped, ended}
use Rattle.ck_type_readers.proofs.specifier_lists.all_specifiers.Goals as goal

pub row-init : goal.row-init
row-init g c inside listed structs enums =
    rw c.new-tally.ensures (starts (words c.args.source.now) inside listed
    (g.T.Building.specifiers c.no_specifiers-row.result) c.args.source.now.tokens c.args.at
    c.no_specifiers-row.ensures)

pub returns-in-None : goal.returns-in-None
returns-in-None g c inside listed structs enums =
    stopped (words c.args.source.now) inside listed g.T.Building.specifiers c.specifier.new.row c.row-test.true
    c.len-step-end.ensures (c.row.invariant inside listed structs enums)
    (rw c.in-None.is at (c.in_ok-specifier.ensures inside listed structs enums))

pub row-preserved : goal.row-preserved
row-preserved g c inside listed structs enums =
    goes_on (words c.args.source.now) inside listed c.row-test.true c.len-step-end.ensures
    (c.row.invariant inside listed structs enums)
    (rw c.in-Some.is at (c.in_ok-specifier.ensures inside listed structs enums))

pub returns : goal.returns
returns g c inside listed structs enums =
    ended (words c.args.source.now) inside listed g.T.Building.specifiers c.row.row c.row-test.false
    c.len-step-end.ensures (c.row.invariant inside listed structs enums)
