use Rattle.std.proofs.Common.{◌<◌, ◌∙◌, Some, length, refl, sym, arith}
use Rattle.std.proofs.lemmas.List.Elements.{All-contains}
use Rattle.std.proofs.lemmas.Option.{slice_get_read, slice_get_within}
use Rattle.std.proofs.lemmas.Result.{on_ok_weaker}
use Rattle.ck_reaching.specs.Rules.{IsCalleeWithin, IsCallWithin}
use Rattle.ck_reaching.proofs.WorkLemmas.{contains-at}
use Rattle.ck_reaching.proofs.ConnectLemmas.{places-more, Connects-from}
use Rattle.ck_reaching.proofs.solving.connect.Goals as goal

pub add_edge_if_any-requires-clause-from : goal.add_edge_if_any-requires-clause-from
add_edge_if_any-requires-clause-from c = λ cell e.
    let s = c.args.rules.now in
    let call = c.args.call.now in
    let within = All-contains (IsCallWithin s) s.calls call c.requires.work.inside.calls c.requires.call in
    let n = c.places.place in
    let below : n < length call.arguments.items =
    omega (arith, c.places-test.true, c.min-places.ensures, c.len.ensures) in
    let inside = within.arguments n c.index.result.now below cell (sym c.index.ensures ∙ e) in
    omega (arith, inside, c.places.invariant.advances.work.cells)

pub add_edge_if_any-requires-clause-to : goal.add_edge_if_any-requires-clause-to
add_edge_if_any-requires-clause-to c = λ cell e.
    let s = c.args.rules.now in
    let callee = c.callee-callee.result.now in
    let within = All-contains (IsCalleeWithin s.cells) s.callees callee c.requires.work.inside.callees
    (contains-at s.callees c.args.function.0 callee c.callee-callee.ensures) in
    let n = c.places.place in
    let below : n < length callee.parameters.items =
    omega (arith, c.places-test.true, c.min-places.ensures, c.len-2.ensures) in
    let inside = within.parameters n c.index-in-places.result.now below cell (sym c.index-in-places.ensures ∙ e) in
    omega (arith, inside, c.places.invariant.advances.work.cells)

pub places-preserved : goal.places-preserved
places-preserved c =
    let s = c.args.rules.now in
    let call = c.args.call.now in
    let callee = c.callee-callee.result.now in
    let n = c.places.place in
    let below : n < length call.arguments.items =
    omega (arith, c.places-test.true, c.min-places.ensures, c.len.ensures) in
    let below' : n < length callee.parameters.items =
    omega (arith, c.places-test.true, c.min-places.ensures, c.len-2.ensures) in
    places-more s call callee c.args.function.0 n c.index.result.now c.index-in-places.result.now c.args.work.now
    c.places.work c.add_edge_if_any.new.self c.requires.call c.requires.target c.callee-callee.ensures
    (slice_get_read call.arguments.items (length call.arguments.items) n c.index.result.now refl below c.index.ensures)
    (slice_get_read callee.parameters.items (length callee.parameters.items) n c.index-in-places.result.now refl below'
    c.index-in-places.ensures) c.places.invariant c.in_ok-add_edge_if_any.ensures

pub add_edge_if_any-requires-2-clause-from : goal.add_edge_if_any-requires-2-clause-from
add_edge_if_any-requires-2-clause-from c = λ cell e.
    let s = c.args.rules.now in
    let callee = c.callee-callee.result.now in
    let within = All-contains (IsCalleeWithin s.cells) s.callees callee c.requires.work.inside.callees
    (contains-at s.callees c.args.function.0 callee c.callee-callee.ensures) in
    omega (arith, within.outcome cell e, c.places.invariant.advances.work.cells)

pub add_edge_if_any-requires-2-clause-to : goal.add_edge_if_any-requires-2-clause-to
add_edge_if_any-requires-2-clause-to c = λ cell e.
    let s = c.args.rules.now in
    let call = c.args.call.now in
    let within = All-contains (IsCallWithin s) s.calls call c.requires.work.inside.calls c.requires.call in
    omega (arith, within.outcome cell e, c.places.invariant.advances.work.cells)

pub returns : goal.returns
returns c =
    let call = c.args.call.now in
    let callee = c.callee-callee.result.now in
    on_ok_weaker c.add_edge_if_any-2.result
    (Connects-from c.args.rules.now call callee c.args.function.0 c.places.place c.args.work.now c.places.work
    c.add_edge_if_any-2.new.self c.requires.call c.requires.target c.callee-callee.ensures
    (λ place a p arg param.
    let below = slice_get_within call.arguments.items place (Some a) arg in
    let below' = slice_get_within callee.parameters.items place (Some p) param in
    omega (arith, below, below', c.places-test.false, c.min-places.ensures, c.len.ensures, c.len-2.ensures))
    c.places.invariant) c.add_edge_if_any-2.ensures
