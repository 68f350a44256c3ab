use Rattle.ck_reaching.proofs.LookLemmas.{ConnectsBelow-more}
use Rattle.ck_reaching.proofs.solving.connect_functions.Goals as goal

pub functions-preserved : goal.functions-preserved
functions-preserved c =
    let found = c.in-Some.ensures in
    let e = c.in_ok-connect_if_new.ensures in
    ConnectsBelow-more c.args.rules.now c.args.cell.0 c.functions.number c.in-Some.function.0 c.functions.seen
    c.connect_if_new.new.seen c.args.work.now c.functions.work c.connect_if_new.new.work found.3 c.functions.invariant
    e.advances e.sized e.connected e.kept e.met
