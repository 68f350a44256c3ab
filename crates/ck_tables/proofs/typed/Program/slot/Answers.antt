use Rattle.ck_tables.proofs.ProgramLemmas.{slot_is, slot_of_rows}
use Rattle.ck_tables.proofs.typed.Program.slot.Goals as goal

pub returns-clause-slot : goal.returns-clause-slot
returns-clause-slot c = let p = c.args.self.now in slot_is p.linked p.rows c.args.id.0 c.row.result.now c.row.ensures

pub returns-clause-fits : goal.returns-clause-fits
returns-clause-fits c =
    let p = c.args.self.now in
    slot_of_rows p.linked p.rows c.args.id.0 c.row.result.now p.fitting c.row.ensures
