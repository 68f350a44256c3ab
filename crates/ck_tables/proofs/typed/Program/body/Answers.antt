use Rattle.ck_tables.proofs.ProgramLemmas.{function_is, body_of_closed}
use Rattle.ck_tables.proofs.typed.Program.body.Goals as goal

pub returns-clause-function : goal.returns-clause-function
returns-clause-function c = let p = c.args.self.now in function_is p.linked c.args.id.0 c.row.result.now c.row.ensures

pub returns-clause-fits : goal.returns-clause-fits
returns-clause-fits c =
    let p = c.args.self.now in
    body_of_closed p.linked c.args.id.0 c.row.result.now p.closed c.row.ensures
