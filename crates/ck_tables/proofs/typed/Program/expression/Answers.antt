use Rattle.ck_tables.proofs.ProgramLemmas.{expression_of_closed}
use Rattle.ck_tables.proofs.typed.Program.expression.Goals as goal

pub returns-clause-fits : goal.returns-clause-fits
returns-clause-fits c =
    let p = c.args.self.now in
    expression_of_closed p.linked c.args.id.0 c.node.result.now p.closed c.node.ensures.row
