use Rattle.std.proofs.Common.{◌<◌, ◌∙◌, ap, refl, sym, List, get_or, slice_get, length, rules}
use Rattle.std.proofs.lemmas.Option.{slice_get-get_or}
use Rattle.ck_graph.specs.declared.points.Edge.{Edge}
use Rattle.ck_graph.specs.Steps.{HasEdge}
use Rattle.ck_paths.specs.declared.found.Reason.TheVariants.{OverCall}
use Rattle.ck_paths.proofs.Steps.{returns}
use Rattle.ck_paths.proofs.search.over_call.Goals as goal

pub put-requires-clause-holds : goal.put-requires-clause-holds
put-requires-clause-holds c = λ same roots.
    let flow = c.args.graph.now in
    let edges : List Edge = c.edges-edges.result.now in
    let edge : Edge = get_or edges 0 _ in
    let some : 0 < length c.edges-edges.result.now = search rules in
    let has : HasEdge flow c.args.calls.point.0 0 edge = ap (λ (xs : List Edge). slice_get xs 0)
    (sym c.edges-edges.ensures) ∙ slice_get-get_or edges 0 _ some in
    returns flow c.args.found.now.places.items c.args.caller c.args.exit c.args.target.0 c.args.calls c.args.ends
    (record {
      point = edge.to;
      from = c.args.calls.from;
      to = c.args.ends.to;
      reason =
          OverCall c.args.caller c.args.exit;
      same = same;
    }) edge c.requires.sound c.requires.caller c.requires.exit
    c.requires.target c.requires.ends c.if-not-is_same.ensures has refl refl refl
