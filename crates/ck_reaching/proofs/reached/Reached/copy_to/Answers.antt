use Rattle.std.proofs.Common.{◌<◌, List, length, ap, sym, ◌∙◌, subst}
use Rattle.ck_rows.specs.declared.rows.Rows.{Rows}
use Rattle.ck_reaching.specs.Reached.{set_at}
use Rattle.ck_reaching.proofs.TableLemmas.{set_at-read}
use Rattle.ck_reaching.proofs.reached.Reached.copy_to.Goals as goal

pub copy_from-requires : goal.copy_from-requires
copy_from-requires c =
    let table : List (List Rows) = c.self.inside.sets.items in
    let cell = c.args.cell.0 in
    let within : cell < length table = subst (λ t. cell < length t) (sym c.self.view_is) c.requires.cell in
    ap length (set_at-read table cell c.index.result.now within c.index.ensures) ∙
    (ap (λ t. length (set_at t cell)) c.self.view_is ∙ sym c.requires.size)

pub returns : goal.returns
returns c =
    let table : List (List Rows) = c.self.inside.sets.items in
    let cell = c.args.cell.0 in
    let within : cell < length table = subst (λ t. cell < length t) (sym c.self.view_is) c.requires.cell in
    c.copy_from.ensures ∙ (set_at-read table cell c.index.result.now within c.index.ensures ∙
    ap (λ t. set_at t cell) c.self.view_is)
