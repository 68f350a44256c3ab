use Rattle.std.proofs.Common.{◌<◌, List, length, get_or, sym, ap, ◌∙◌, subst}
use Rattle.std.proofs.lemmas.List.{get_or_read}
use Rattle.ck_rows.specs.declared.rows.Rows.{Rows}
use Rattle.ck_summary.specs.Solution.{rows_at, no_rows}
use Rattle.ck_summary.proofs.table.Table.rows.Goals as goal

pub returns : goal.returns
unfolding rows_at
returns c =
    let rows : List Rows = c.self.inside.rows.items in
    let point = c.args.point.0 in
    let within : point < length rows = subst (λ t. point < length t.rows) (sym c.self.view_is) c.requires in
    get_or_read rows point c.index.result.now within c.index.ensures no_rows ∙
    ap (λ t. get_or t.rows point no_rows) c.self.view_is
