use Rattle.ck_tables.proofs.ProgramLemmas.{statement_of_closed}
use Rattle.ck_call_rows.proofs.walk.Walk.statement_node.Goals as goal

pub returns-clause-fits : goal.returns-clause-fits
returns-clause-fits c =
    let w = c.args.self.now in
    statement_of_closed w.linked.now c.args.s.0 c.node.result.now w.closed c.node.ensures.row
