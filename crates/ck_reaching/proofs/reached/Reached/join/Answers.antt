use Rattle.std.proofs.Common.{◌<◌, List, length, set, ap, sym, ◌∙◌, subst}
use Rattle.ck_rows.specs.declared.rows.Rows.{Rows}
use Rattle.ck_reaching.specs.Joins.{IsJoin}
use Rattle.ck_reaching.specs.Reached.{set_at}
use Rattle.ck_reaching.specs.Growth.{IsAddition}
use Rattle.ck_reaching.proofs.TableLemmas.{IsAddition-set, set_at-read}
use Rattle.ck_reaching.proofs.reached.Reached.join.Goals as goal

pub join-requires : goal.join-requires
join-requires c =
    let table : List (List Rows) = c.self.inside.sets.items in
    let cell = c.args.cell.0 in
    let within : cell < length table = subst (λ t. cell < length t) (sym c.self.view_is) c.requires.cell in
    c.requires.size ∙ (ap (λ t. length (set_at t cell)) (sym c.self.view_is) ∙
    ap length (sym (set_at-read table cell c.index_mut.result.now within c.index_mut.ensures.value)))

pub returns : goal.returns
returns c =
    let table : List (List Rows) = c.self.inside.sets.items in
    let cell = c.args.cell.0 in
    let given : List Rows = c.args.given.now in
    let functions : List Rows = c.join.new.self in
    let within : cell < length table = subst (λ t. cell < length t) (sym c.self.view_is) c.requires.cell in
    let at = set_at-read table cell c.index_mut.result.now within c.index_mut.ensures.value in
    subst (λ t. IsAddition cell given t (set table cell functions) c.join.result) c.self.view_is
    (IsAddition-set table cell given functions c.join.result within
    (subst (λ s. IsJoin s given functions c.join.result) at c.join.ensures))
