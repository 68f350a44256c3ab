use Rattle.ck_tables.proofs.ProgramLemmas.{declaration_of_closed}
use Rattle.ck_tables.proofs.typed.Program.declaration.Goals as goal

pub returns-clause-fits : goal.returns-clause-fits
returns-clause-fits c =
    let p = c.args.self.now in
    declaration_of_closed p.linked c.args.id.0 c.row.result.now p.closed c.row.ensures
