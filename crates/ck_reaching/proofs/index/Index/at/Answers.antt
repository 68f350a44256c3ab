use Rattle.std.proofs.Common.{◌<◌, length, sym, ap, ◌∙◌, subst, arith}
use Rattle.std.proofs.lemmas.List.{length-map}
use Rattle.ck_reaching.specs.Indices.{numbers_at, items_of}
use Rattle.ck_reaching.proofs.IndexLemmas.{numbers_at-items}
use Rattle.ck_reaching.proofs.index.Index.at.Goals as goal

pub returns : goal.returns
returns c =
    let at = c.args.at in
    let items = c.self.inside.lists.items in
    let shown = subst (λ t. at < length t) (sym c.self.view_is) c.requires in
    let within : at < length items = omega (arith, shown, length-map items items_of) in
    c.deref.ensures.value ∙
    (numbers_at-items items at c.index.result.now within c.index.ensures ∙ ap (λ t. numbers_at t at) c.self.view_is)
