use Rattle.ck_tables.proofs.ProgramLemmas.{member_of_closed}
use Rattle.ck_tables.proofs.typed.Program.member.Goals as goal

pub returns-clause-fits : goal.returns-clause-fits
returns-clause-fits c =
    let p = c.args.self.now in
    member_of_closed p.linked c.args.id.0 c.row.result.now p.closed c.row.ensures
