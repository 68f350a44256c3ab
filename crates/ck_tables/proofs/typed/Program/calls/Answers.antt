use Rattle.ck_tables.specs.ProgramRows.{call_of}
use Rattle.ck_tables.proofs.ProgramLemmas.{length_mapped}
use Rattle.ck_tables.proofs.typed.Program.calls.Goals as goal

pub returns : goal.returns
returns c =
    let p = c.args.self.now in
    length_mapped (call_of p.linked) p.rows.calls.rows.items c.as_slice.result.now c.as_slice.ensures
