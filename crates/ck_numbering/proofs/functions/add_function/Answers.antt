use Rattle.std.proofs.Common.{arith}
use Rattle.std.proofs.lemmas.List.{length-map}
use Rattle.std.proofs.lemmas.Slice.Zip.{AllZip-long}
use Rattle.ck_drafts.specs.Drafts.{plain_draft}
use Rattle.ck_graph.specs.Flow.{point_of}
use Rattle.ck_numbering.proofs.Added.{added, has_still, lead_still}
use Rattle.ck_numbering.proofs.functions.add_function.Goals as goal

pub number_at-requires-clause-there : goal.number_at-requires-clause-there
number_at-requires-clause-there c =
    rw (c.deref.ensures.value, c.body_place.ensures)
    (has_still _ _ _ c.sort.ensures.same c.requires.closed.entered)

pub number_at-requires-clause-room : goal.number_at-requires-clause-room
number_at-requires-clause-room c =
    let all = length-map c.args.parts.now.points.items point_of in grind (arith, all, c.sort.ensures.length)

pub number_at-requires-2-clause-there : goal.number_at-requires-2-clause-there
number_at-requires-2-clause-there c =
    rw (c.deref-2.ensures.value, c.body_place-2.ensures)
    (has_still _ _ _ c.sort.ensures.same c.requires.closed.left)

pub number_at-requires-2-clause-room : goal.number_at-requires-2-clause-room
number_at-requires-2-clause-room c =
    let all = length-map c.args.parts.now.points.items point_of in grind (arith, all, c.sort.ensures.length)

pub all_edges-requires-clause-stay : goal.all_edges-requires-clause-stay
all_edges-requires-clause-stay c =
    rw c.deref-3.ensures.value (lead_still _ _ c.sort.ensures.same c.requires.closed.stay)

pub all_edges-requires-clause-room : goal.all_edges-requires-clause-room
all_edges-requires-clause-room c =
    let all = length-map c.args.parts.now.points.items point_of in grind (arith, all, c.sort.ensures.length)

pub add_points-requires : goal.add_points-requires
add_points-requires c =
    let edges = rw c.deref-3.ensures.value at c.in_ok-edges.ensures in
    let as_many = AllZip-long _ _ _ edges in
    let all = length-map c.sort.new.drafts.items plain_draft in grind (arith, as_many, all)

pub returns : goal.returns
returns c =
    let first = length-map c.args.parts.now.points.items point_of in
    added _ _ _ c.sort.new.drafts.items c.in_ok-edges.edges.items c.len-first.result c.len.result
    (record { first = c.number_at.result; exit = c.number_at-2.result }) (grind (arith, first)) (grind arith)
    c.sort.ensures.same c.in_ok-sort.ensures.ascending (rw c.deref-3.ensures.value at c.in_ok-edges.ensures)
    (rw (c.deref.ensures.value, c.body_place.ensures) at c.number_at.ensures)
    (rw (c.deref-2.ensures.value, c.body_place-2.ensures) at c.number_at-2.ensures) c.in_ok-add_points.ensures
    c.in_ok-push.ensures.items
