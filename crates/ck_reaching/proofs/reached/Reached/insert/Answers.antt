use Rattle.std.proofs.Common.{◌≡◌, ◌<◌, ◌/◌, ◌↔◌, ◌⊎◌, ℕ, List, length, set, ap, sym, ◌∙◌, subst}
use Rattle.ck_rows.specs.declared.rows.Rows.{Rows}
use Rattle.ck_reaching.specs.Sets.{Has}
use Rattle.ck_reaching.specs.Reached.{Holds, set_at}
use Rattle.ck_reaching.specs.Growth.{KeepsSizes}
use Rattle.ck_reaching.proofs.TableLemmas.{inserted, keeps_sizes-set, set_at-read}
use Rattle.ck_reaching.proofs.reached.Reached.insert.Goals as goal

pub add-requires : goal.add-requires
add-requires c =
    let table : List (List Rows) = c.self.inside.sets.items in
    let cell = c.args.cell.0 in
    let within : cell < length table = subst (λ t. cell < length t) (sym c.self.view_is) c.requires.cell in
    let at = set_at-read table cell c.index_mut.result.now within c.index_mut.ensures.value in
    subst (λ s. c.args.function.0 / 256 < length s) (sym at)
    (subst (λ t. c.args.function.0 / 256 < length (set_at t cell)) (sym c.self.view_is) c.requires.room)

pub returns-clause-exactly : goal.returns-clause-exactly
returns-clause-exactly c =
    let table : List (List Rows) = c.self.inside.sets.items in
    let cell = c.args.cell.0 in
    let g = c.args.function.0 in
    let functions : List Rows = c.add.new.self in
    let new : List (List Rows) = set table cell functions in
    let within : cell < length table = subst (λ t. cell < length t) (sym c.self.view_is) c.requires.cell in
    let at = set_at-read table cell c.index_mut.result.now within c.index_mut.ensures.value in
    subst (λ t. (k f : ℕ) → Holds new k f ↔ (Holds t k f ⊎ ((k ≡ cell) × (f ≡ g)))) c.self.view_is
    (inserted table cell g functions within
    (subst (λ s. (f : ℕ) → Has functions f ↔ (Has s f ⊎ (f ≡ g))) at c.add.ensures.exactly))

pub returns-clause-sizes : goal.returns-clause-sizes
returns-clause-sizes c =
    let table : List (List Rows) = c.self.inside.sets.items in
    let cell = c.args.cell.0 in
    let functions : List Rows = c.add.new.self in
    let within : cell < length table = subst (λ t. cell < length t) (sym c.self.view_is) c.requires.cell in
    let at = set_at-read table cell c.index_mut.result.now within c.index_mut.ensures.value in
    subst (λ t. KeepsSizes t (set table cell functions)) c.self.view_is
    (keeps_sizes-set table cell functions within (c.add.ensures.size ∙ ap length at))
