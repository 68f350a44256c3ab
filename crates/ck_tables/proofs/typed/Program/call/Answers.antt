use Rattle.ck_tables.proofs.ProgramLemmas.{call_is, call_of_rows}
use Rattle.ck_tables.proofs.typed.Program.call.Goals as goal

pub returns-clause-call : goal.returns-clause-call
returns-clause-call c =
    let p = c.args.self.now in
    call_is p.linked p.rows c.args.number c.row.result.now c.row.ensures

pub returns-clause-fits : goal.returns-clause-fits
returns-clause-fits c =
    let p = c.args.self.now in
    call_of_rows p.linked p.rows c.args.number c.row.result.now p.fitting c.row.ensures
