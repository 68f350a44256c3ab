use Rattle.std.proofs.Common.{◌≡◌, ◌<◌, List, length, replicate, ap, ◌∙◌, subst, arith}
use Rattle.std.proofs.lemmas.List.{length-replicate}
use Rattle.ck_rows.specs.declared.rows.Rows.{Rows}
use Rattle.ck_rows.specs.Relation.{Relates}
use Rattle.ck_summary.specs.Solution.{rows_at}
use Rattle.ck_summary.proofs.TableLemmas.{HasNoPairs-from_places, rows_at-replicate}
use Rattle.ck_summary.proofs.table.Table.new.Goals as goal

pub returns-clause-empty : goal.returns-clause-empty
returns-clause-empty c =
    let table : List Rows = c.in_ok-rows.rows.items in
    let same : table ≡ replicate c.points.result c.no_pairs.result =
    c.in_ok-rows.ensures.items_if_clones_equal (λ y e. e) in
    HasNoPairs-from_places table (λ p a b below r.
    let within : p < c.points.result =
    omega (arith, below, ap length same, length-replicate c.points.result c.no_pairs.result) in
    c.no_pairs.ensures.none a b
    (subst (λ rows. Relates rows a b)
    (ap (λ t. rows_at t p) same ∙ rows_at-replicate c.points.result p c.no_pairs.result within) r))
