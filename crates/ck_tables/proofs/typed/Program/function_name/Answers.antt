use Rattle.std.proofs.Common.{subst, sym}
use Rattle.ck_tables.specs.ProgramRows.{function_names}
use Rattle.ck_tables.specs.Rows.{IsRow}
use Rattle.ck_tables.proofs.ProgramLemmas.{name_of_body, function_name_is}
use Rattle.ck_tables.proofs.typed.Program.function_name.Goals as goal

pub name_of-requires : goal.name_of-requires
name_of-requires c = name_of_body c.args.self.now.linked c.body.result.now c.body.ensures.fits

pub returns : goal.returns
returns c =
    let l = c.args.self.now.linked in
    let i = c.args.id.0 in
    subst (IsRow (function_names l) i) (sym c.name_of.ensures)
    (function_name_is l i c.body.result.now c.body.ensures.row)
