use Rattle.ck_tables.proofs.ProgramLemmas.{expression_of_closed}
use Rattle.ck_call_rows.proofs.walk.Walk.expression_node.Goals as goal

pub returns-clause-fits : goal.returns-clause-fits
returns-clause-fits c =
    let w = c.args.self.now in
    expression_of_closed w.linked.now c.args.x.0 c.node.result.now w.closed c.node.ensures.row
