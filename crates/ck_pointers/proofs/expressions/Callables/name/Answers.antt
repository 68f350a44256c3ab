use Rattle.std.proofs.Common.{Some, sym, subst}
use Rattle.ck_call_rows.specs.TypedRows.{declarations}
use Rattle.ck_slots.specs.Origins.{origin_of_name}
use Rattle.ck_tables.specs.Program.{entry_of, readings}
use Rattle.ck_tables.specs.Readings.{plain_entry}
use Rattle.ck_pointers.specs.ExpressionSources.{StandsAlways, rows, tables}
use Rattle.ck_pointers.proofs.NameLemmas.{name_stands, row_get}
use Rattle.ck_pointers.proofs.expressions.Callables.name.Goals as goal

pub returns-in-Some : goal.returns-in-Some
returns-in-Some c =
    let s = c.args.self.now in
    let l = tables s in
    let id = c.in-Some.entry.0 in
    let u = c.use_of.result in
    subst (λ e. StandsAlways s (origin_of_name (declarations l) (plain_entry (readings l) e)) c.by_meaning.result)
    (sym c.in-Some.is)
    (subst (StandsAlways s (origin_of_name (declarations l) (Some (entry_of l id)))) (sym c.by_meaning.ensures)
    (name_stands s c.requires.typed id u (row_get (rows s).uses.rows.items id u c.use_of.ensures.row)
    c.use_of.ensures.fits c.entry.result.now c.entry.ensures.entry))
