use Rattle.std.proofs.Common.{◌≡◌, ap, sym, ◌∙◌, arith}
use Rattle.std.specs.Prelude.{map, ◌++◌, length, vec_len}
use Rattle.std.proofs.lemmas.Iterator.{YieldsList-from_zip}
use Rattle.std.proofs.lemmas.Iterator.Adapters.{YieldsList-from_vec}
use Rattle.std.proofs.lemmas.Iterator.Consumers.{YieldsList-at, YieldsList-end}
use Rattle.std.proofs.lemmas.List.{map-id}
use Rattle.ck_graph.specs.Flow.{point_of}
use Rattle.ck_numbering.specs.Numbered.{point_made}
use Rattle.ck_numbering.proofs.functions.add_points.Goals as goal

pub returns : goal.returns
returns c =
    let zipped = c.zip-draft-items.ensures in
    let drafts_long : vec_len c.args.drafts ≡ length c.args.drafts.items = grind arith in
    let edges_long : vec_len c.args.edges ≡ length c.args.edges.items = grind arith in
    let drafts = YieldsList-at zipped.first
    (YieldsList-from_vec c.args.drafts.items c.into_iter.ensures.rest (c.into_iter.ensures.len ∙ drafts_long)) in
    let edges = YieldsList-from_vec c.args.edges.items zipped.second.0 (zipped.second.1 ∙ edges_long) in
    let all = YieldsList-end (YieldsList-at c.into_iter-draft-iterator.ensures.into_iter_gives
    (YieldsList-from_zip drafts edges)) c.drafts.yielded c.drafts.draft-iterator c.drafts.yielded_by
    c.next.result c.next.new.self c.in-None.is c.next.ensures.steps in
    c.drafts.invariant
    ∙ ap (λ made. map point_of c.args.points.now.items ++ map (point_made c.args.function) made)
    (sym (map-id c.drafts.yielded) ∙ all.0)
