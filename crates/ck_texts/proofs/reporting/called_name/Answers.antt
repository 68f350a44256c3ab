use Rattle.ck_texts.specs.Views.{names_of}
use Rattle.ck_texts.proofs.GraphLemmas.{HasActName-at}
use Rattle.ck_texts.proofs.reporting.called_name.Goals as goal

pub act_name-requires : goal.act_name-requires
act_name-requires c =
    HasActName-at c.args.graph.now (names_of c.args.names.now) c.args.names.now.maps.items c.args.point.0
    c.kind.result.now c.in-Act.field-0 c.in-Act.act c.requires.names c.requires.there c.kind.ensures c.in-Act.is
