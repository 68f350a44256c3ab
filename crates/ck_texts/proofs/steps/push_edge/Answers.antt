use Rattle.ck_texts.specs.Views.{names_of}
use Rattle.ck_texts.proofs.GraphLemmas.{HasActName-at}
use Rattle.ck_texts.proofs.steps.push_edge.Goals as goal

pub push_act-requires-clause-act : goal.push_act-requires-clause-act
push_act-requires-clause-act c =
    HasActName-at c.args.graph.now (names_of c.args.names.now) c.args.names.now.maps.items c.args.point.0
    c.kind.result.now c.in-Act.op c.in-Act.act c.requires.named c.requires.there c.kind.ensures c.in-Act.is
