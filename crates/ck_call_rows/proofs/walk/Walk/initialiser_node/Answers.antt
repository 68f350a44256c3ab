use Rattle.ck_tables.proofs.ProgramLemmas.{initialiser_of_closed}
use Rattle.ck_call_rows.proofs.walk.Walk.initialiser_node.Goals as goal

pub returns-clause-fits : goal.returns-clause-fits
returns-clause-fits c =
    let w = c.args.self.now in
    initialiser_of_closed w.linked.now c.args.i.0 c.node.result.now w.closed c.node.ensures.row
