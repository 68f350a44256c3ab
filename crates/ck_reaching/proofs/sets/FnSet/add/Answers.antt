use Rattle.std.proofs.Common.{◌≡◌, ◌<◌, ◌/◌, ◌%◌, ◌↔◌, ◌⊎◌, ℕ, arith, List, length, set, sym, subst}
use Rattle.std.proofs.lemmas.List.{get_or_read}
use Rattle.ck_rows.specs.declared.rows.Rows.{Rows}
use Rattle.ck_rows.specs.Relation.{Relates}
use Rattle.ck_reaching.specs.Sets.{Has, block_at, no_block}
use Rattle.ck_reaching.proofs.SetLemmas.{Has-added}
use Rattle.ck_reaching.proofs.sets.FnSet.add.Goals as goal

pub returns-clause-exactly : goal.returns-clause-exactly
unfolding block_at
returns-clause-exactly c =
    let old : List Rows = c.self.inside.blocks.items in
    let g = c.args.function.0 in
    let new : List Rows = set old (g / 16 / 16) c.add_pair.new.rows in
    let within : g / 16 / 16 < length old =
    subst (λ s. g / 16 / 16 < length s) (sym c.self.view_is) (omega (arith, c.requires)) in
    let at : c.index_mut.result.now ≡ block_at old (g / 16 / 16) =
    get_or_read old (g / 16 / 16) c.index_mut.result.now within c.index_mut.ensures.value no_block in
    subst (λ s. (f : ℕ) → Has new f ↔ (Has s f ⊎ (f ≡ g))) c.self.view_is
    (Has-added old g c.add_pair.new.rows within c.add_pair.ensures.there
    (λ i j r. c.add_pair.ensures.kept i j (subst (λ b. Relates b i j) (sym at) r))
    (λ i j r. subst (λ b. Relates b i j ⊎ ((i ≡ g / 16 % 16) × (j ≡ g % 16))) at (c.add_pair.ensures.only i j r)))
