use Rattle.std.proofs.Common.{◌≡◌, arith, ap, sym, subst, ◌∙◌, refl}
use Rattle.std.specs.Prelude.{map, length, vec_len}
use Rattle.std.proofs.lemmas.Iterator.Adapters.{YieldsList-from_vec}
use Rattle.std.proofs.lemmas.List.{length-map, map_push}
use Rattle.ck_graph.specs.Flow.{flow_of, point_of}
use Rattle.ck_numbering.specs.Numbered.{IsBuilt, None_yet, Added, plain_drafts}
use Rattle.ck_numbering.proofs.SmallGraphs.{small_edges}
use Rattle.ck_numbering.proofs.Sums.{point_count-built}
use Rattle.ck_numbering.proofs.Turns.{turn, ended, graph, sum_kept, room, next_closed}
use Rattle.ck_numbering.proofs.functions.graph_of.Goals as goal

pub functions-init : goal.functions-init
functions-init c = None_yet _ (ap (map point_of) c.new.ensures.items) c.new-2.ensures.items

pub add_function-requires : goal.add_function-requires
add_function-requires c =
    let drafts = c.args.drafts.items in
    let flow = flow_of c.functions.parts in
    let long : vec_len c.args.drafts ≡ length drafts = grind arith in
    let given = c.into_iter-function-iterator.ensures.into_iter_gives in
    let road = YieldsList-from_vec drafts given.0 (given.1 ∙ long) in
    let (first, there) = turn road c.functions.yielded c.functions.function-iterator c.functions.yielded_by
    c.next.result c.next.new.self c.in-Some.function c.in-Some.is c.next.ensures.steps in
    let low = room drafts c.requires flow c.functions.yielded c.in-Some.function first there c.functions.invariant in
    let own : vec_len c.in-Some.function ≡ length c.in-Some.function.items = grind arith in
    let count = point_count-built _ _ c.functions.invariant in
    record {
      closed =
          next_closed drafts c.requires flow c.functions.yielded c.in-Some.function first there c.functions.invariant
          c.edges_stay.ensures c.places_differ.ensures;
      room = omega (arith, low, own);
      functions = omega (arith, low, count.1);
    }

pub functions-preserved : goal.functions-preserved
functions-preserved c =
    subst (λ all. IsBuilt all (flow_of c.add_function.new.parts))
    (sym (map_push plain_drafts c.functions.yielded c.in-Some.function))
    (Added (map plain_drafts c.functions.yielded) (plain_drafts c.in-Some.function) (flow_of c.functions.parts)
    (flow_of c.add_function.new.parts) c.functions.invariant c.in_ok-add_function.ensures)

pub returns : goal.returns
returns c =
    let drafts = c.args.drafts.items in
    let points = c.functions.parts.points in
    let functions = c.functions.parts.functions in
    let flow = flow_of c.functions.parts in
    let long : vec_len c.args.drafts ≡ length drafts = grind arith in
    let given = c.into_iter-function-iterator.ensures.into_iter_gives in
    let road = YieldsList-from_vec drafts given.0 (given.1 ∙ long) in
    let all = ended road c.functions.yielded c.functions.function-iterator c.functions.yielded_by c.next.result
    c.next.new.self c.in-None.is c.next.ensures.steps in
    let built = subst (λ vs. IsBuilt (map plain_drafts vs) flow) all c.functions.invariant in
    let count = point_count-built _ _ built in
    let low = sum_kept drafts c.requires in
    let made = length-map points.items point_of in
    let points_long : vec_len points ≡ length points.items = grind arith in
    let functions_long : vec_len functions ≡ length functions.items = grind arith in
    let is_graph = graph drafts flow built in
    record {
      graph = is_graph;
      points = omega (arith, count.0, low, made, points_long);
      functions = omega (arith, count.0, count.1, low, functions_long);
      edges =
          small_edges c.edges_are_few.ensures c.requires.program points.items flow refl c.requires.kept
          (is_graph c.requires.program c.requires.drafted);
    }
