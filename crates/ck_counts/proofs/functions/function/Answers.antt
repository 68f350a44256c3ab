use Rattle.std.proofs.Common.{◌≡◌, true, sym, subst}
use Rattle.std.specs.List.{list_all}
use Rattle.ck_tables.specs.Numbers.{numbers, item_fits}
use Rattle.ck_counts.proofs.Fits.{items-fit}
use Rattle.ck_counts.proofs.functions.function.Goals as goal

pub count_items-requires-clause-fit : goal.count_items-requires-clause-fit
count_items-requires-clause-fit c =
    let n = numbers c.args.program.now.linked in
    subst (λ is. list_all (item_fits n) is ≡ true) (sym c.as_slice-row.ensures.value)
    (items-fit n c.args.body.now c.requires.fits)

pub items_count-requires-clause-fit : goal.items_count-requires-clause-fit
items_count-requires-clause-fit c =
    let n = numbers c.args.program.now.linked in
    subst (λ is. list_all (item_fits n) is ≡ true) (sym c.as_slice-row.ensures.value)
    (items-fit n c.args.body.now c.requires.fits)
