use Rattle.std.proofs.Common.{◌<◌, length, subst, sym}
use Rattle.ck_tables.specs.SubobjectTable.{IsNode}
use Rattle.ck_tables.specs.Rows.{IsRow}
use Rattle.ck_tables.proofs.SubobjectLemmas.{is_node_at}
use Rattle.ck_tables.proofs.TableLemmas.{is_row_at}
use Rattle.ck_tables.proofs.subobjects.Subobjects.row.Goals as goal

pub returns : goal.returns
returns c =
    let ns = c.self.inside.rows.items in
    let i = c.args.id.0 in
    let known : i < length ns = subst (λ ms. i < length ms) (sym c.self.view_is) c.requires in
    let at = is_node_at ns i c.index.result.now c.self.invariant known in
    record {
      row =
          subst (λ ms. IsRow ms i c.index.result.now) c.self.view_is
          (is_row_at ns i c.index.result.now known c.index.ensures);
      meaning =
          subst (λ ms. IsNode ms i c.index.result.now) c.self.view_is (subst (IsNode ns i) (sym c.index.ensures) at);
    }
