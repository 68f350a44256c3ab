use Rattle.std.proofs.Common.{◌<◌, length, set, sym, subst, arith}
use Rattle.std.proofs.lemmas.List.{length-map}
use Rattle.ck_reaching.specs.Indices.{lists_of, items_of, AddsNumber}
use Rattle.ck_reaching.proofs.IndexLemmas.{adds-pushed}
use Rattle.ck_reaching.proofs.index.Index.add.Goals as goal

pub returns : goal.returns
returns c =
    let at = c.args.at in
    let items = c.self.inside.lists.items in
    let shown = subst (λ t. at < length t) (sym c.self.view_is) c.requires in
    let within : at < length items = omega (arith, shown, length-map items items_of) in
    subst (λ old. AddsNumber at c.args.number old (lists_of (set items at c.push.new.self))) c.self.view_is
    (adds-pushed items at c.args.number c.index_mut.result.now c.push.new.self within c.index_mut.ensures.value
    c.in_ok-push.ensures.items)
