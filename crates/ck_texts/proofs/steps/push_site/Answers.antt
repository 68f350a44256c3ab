use Rattle.std.proofs.Common.{sym, subst}
use Rattle.ck_texts.specs.Placed.{IsSitePlaced}
use Rattle.ck_texts.specs.Views.{names_of}
use Rattle.ck_texts.proofs.GraphLemmas.{IsSitePlaced-at}
use Rattle.ck_texts.proofs.steps.push_site.Goals as goal

pub push_spot-requires : goal.push_spot-requires
push_spot-requires c =
    subst (λ maps. IsSitePlaced maps c.site.result.now) (sym c.deref.ensures.value)
    (IsSitePlaced-at c.args.graph.now (names_of c.args.names.now) c.args.names.now.maps.items c.args.point.0
    c.site.result.now c.requires.named c.requires.there c.site.ensures)
