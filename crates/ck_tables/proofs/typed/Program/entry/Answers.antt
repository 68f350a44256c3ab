use Rattle.ck_tables.proofs.ProgramLemmas.{entry_is, entry_of_closed}
use Rattle.ck_tables.proofs.typed.Program.entry.Goals as goal

pub returns-clause-entry : goal.returns-clause-entry
returns-clause-entry c = let p = c.args.self.now in entry_is p.linked c.args.id.0 c.row.result.now c.row.ensures

pub returns-clause-fits : goal.returns-clause-fits
returns-clause-fits c =
    let p = c.args.self.now in
    entry_of_closed p.linked c.args.id.0 c.row.result.now p.closed c.row.ensures
