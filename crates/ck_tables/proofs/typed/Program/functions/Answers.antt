use Rattle.ck_tables.specs.Program.{plain_body}
use Rattle.ck_tables.proofs.ProgramLemmas.{length_mapped}
use Rattle.ck_tables.proofs.typed.Program.functions.Goals as goal

pub returns : goal.returns
returns c =
    let l = c.args.self.now.linked in
    length_mapped (plain_body l) l.bodies.rows.items c.as_slice.result.now c.as_slice.ensures
