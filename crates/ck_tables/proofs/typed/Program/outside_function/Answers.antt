use Rattle.ck_tables.proofs.ProgramLemmas.{outside_is, outside_of_rows}
use Rattle.ck_tables.proofs.typed.Program.outside_function.Goals as goal

pub returns-clause-name : goal.returns-clause-name
returns-clause-name c =
    let p = c.args.self.now in
    outside_is p.linked p.rows c.args.number c.row.result.now c.row.ensures

pub returns-clause-fits : goal.returns-clause-fits
returns-clause-fits c =
    let p = c.args.self.now in
    outside_of_rows p.linked p.rows c.args.number c.row.result.now p.fitting c.row.ensures
