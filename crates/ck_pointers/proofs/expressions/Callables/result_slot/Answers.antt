use Rattle.std.proofs.Common.{sym, subst}
use Rattle.ck_call_rows.specs.TypedRows.{declarations}
use Rattle.ck_prog.specs.Slots.{slot_of_result}
use Rattle.ck_slots.specs.Holders.{holder}
use Rattle.ck_slots.specs.Origins.{held}
use Rattle.ck_tables.specs.Program.{entry_of}
use Rattle.ck_pointers.specs.ExpressionSources.{StandsAlways, rows, tables}
use Rattle.ck_pointers.proofs.NameLemmas.{result_stands, row_get}
use Rattle.ck_pointers.proofs.expressions.Callables.result_slot.Goals as goal

pub returns : goal.returns
returns c =
    let s = c.args.self.now in
    let l = tables s in
    let id = c.args.function.0 in
    let u = c.use_of.result in
    subst (StandsAlways s (held (holder (slot_of_result (declarations l) (entry_of l id))))) (sym c.held.ensures)
    (result_stands s c.requires.typed id u (row_get (rows s).uses.rows.items id u c.use_of.ensures.row)
    c.use_of.ensures.fits c.requires.is_function)
