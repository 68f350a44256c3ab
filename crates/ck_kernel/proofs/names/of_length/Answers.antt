use Rattle.std.proofs.Common.{◌∙◌, ap, sym}
use Rattle.std.specs.List.{find}
use Rattle.ck_kernel.specs.Lengths.{names}
use Rattle.ck_kernel.proofs.RowLemmas.{group_within, group_past}
use Rattle.ck_kernel.proofs.names.of_length.Goals as goal

pub returns-in-Some : goal.returns-in-Some
returns-in-Some c text long =
    let h = c.in-Some.ensures.lookup in
    let group = group_within (λ rows. rows.now) c.by_length.result.now c.args.length c.in-Some.rows.now h.3.0 h.1 in
    ap (λ rows. find (λ row. names row text) rows) (sym group)
    ∙ c.by_length.ensures.of c.args.length text long

pub returns-in-None : goal.returns-in-None
returns-in-None c text long =
    let group = group_past (λ rows. rows.now) c.by_length.result.now c.args.length c.in-None.ensures.lookup.3 in
    ap (λ rows. find (λ row. names row text) rows) (sym group)
    ∙ c.by_length.ensures.of c.args.length text long
