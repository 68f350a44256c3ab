use Rattle.std.proofs.Common.{◌≡◌, List, ◌∷◌, [], length, map, reverse, refl, sym, ap, ◌∙◌, subst, inl, inr, arith}
use Rattle.std.proofs.lemmas.Option.{slice_get_read, slice_get_within}
use Rattle.ck_segments.specs.declared.segments.Segment.{Segment}
use Rattle.ck_segments.specs.Plain.{PlainSegment, segment_of}
use Rattle.ck_paths.specs.declared.found.Place.{Place}
use Rattle.ck_paths.specs.declared.found.Reason.TheVariants.{AtRoot}
use Rattle.ck_paths.specs.Found.{IsAt}
use Rattle.ck_paths.specs.Tracing.{own_function, AreOpen}
use Rattle.ck_paths.proofs.Citations.{one}
use Rattle.ck_paths.proofs.Opening.{widen, caller-there, cited-in_caller, open-more, turned}
use Rattle.ck_paths.proofs.building.unfinished.Goals as goal

pub segment_to-requires-clause-cited : goal.segment_to-requires-clause-cited
segment_to-requires-clause-cited c = λ x h.
    c.requires.cited x (widen c.args.found.now.places.items c.args.number x h)

pub callers-init : goal.callers-init
callers-init c =
    let flow = c.args.graph.now in
    let places = c.args.found.now.places.items in
    let exits = c.args.exits.now in
    let segment : PlainSegment = segment_of c.in_ok-last.last.segment in
    let none : c.new-list.result.items ≡ [] = c.new-list.ensures.items in
    let one : map segment_of (reverse c.push.new.self.items) ≡ segment ∷ [] =
    turned c.new-list.result.items c.push.new.self.items c.in_ok-last.last.segment c.in_ok-push.ensures.items ∙
    ap (λ (xs : List Segment). segment ∷ map segment_of (reverse xs)) none in
    record {
      entered = c.in_ok-last.ensures.entered;
      cited = λ x h. c.requires.cited x (c.in_ok-last.ensures.traced.up _ x h);
      going_on =
          subst (λ (xs : List PlainSegment). AreOpen flow places exits c.in_ok-last.last.entry xs c.args.number)
          (sym one)
          c.in_ok-last.ensures;
    }

pub caller_of-requires : goal.caller_of-requires
caller_of-requires c =
    let entered = c.callers.invariant.entered in
    slice_get_within c.args.found.now.places.items c.callers.entry entered.place entered.at

pub index-requires : goal.index-requires
index-requires c =
    let entered = c.callers.invariant.entered in
    omega (
      arith,
      slice_get_within c.args.found.now.places.items c.callers.entry entered.place entered.at,
      c.args.found.now.places.ok.0,
    )

pub function-target-requires : goal.function-target-requires
function-target-requires c =
    let places = c.args.found.now.places.items in
    let entered = c.callers.invariant.entered in
    let place : Place = c.index.result.now in
    let at : IsAt places c.callers.entry place =
    slice_get_read places (length places) c.callers.entry place refl
    (slice_get_within places c.callers.entry entered.place entered.at) c.index.ensures in
    omega (arith, c.requires.ready.linked.points c.callers.entry place at, c.requires.ready.size)

pub segment_into-requires-clause-there : goal.segment_into-requires-clause-there
segment_into-requires-clause-there c =
    (caller-there c.args.graph.now c.args.roots.now c.args.found.now.places.items c.callers.entry c.in-Some.caller
    c.requires.justified c.in-Some.ensures).1

pub segment_into-requires-clause-cited : goal.segment_into-requires-clause-cited
segment_into-requires-clause-cited c = λ x h.
    let places = c.args.found.now.places.items in
    c.callers.invariant.cited x
    (cited-in_caller places c.callers.entry c.in-Some.caller x c.in-Some.ensures (widen places c.in-Some.caller x h))

pub callers-smaller : goal.callers-smaller
callers-smaller c =
    let less =
    (caller-there c.args.graph.now c.args.roots.now c.args.found.now.places.items c.callers.entry c.in-Some.caller
    c.requires.justified c.in-Some.ensures).0 in
    omega (arith, less, c.in_ok-part.ensures.traced.earlier)

pub callers-preserved : goal.callers-preserved
callers-preserved c =
    let flow = c.args.graph.now in
    let places = c.args.found.now.places.items in
    let exits = c.args.exits.now in
    let entered = c.callers.invariant.entered in
    let place : Place = c.index.result.now in
    let at : IsAt places c.callers.entry place =
    slice_get_read places (length places) c.callers.entry place refl
    (slice_get_within places c.callers.entry entered.place entered.at) c.index.ensures in
    let named : c.function-target.result ≡ own_function flow entered.place =
    c.function-target.ensures ∙ ap (own_function flow) (one places c.callers.entry place entered.place at entered.at) in
    let old : List PlainSegment = map segment_of (reverse c.callers.list.items) in
    let segment : PlainSegment = segment_of c.in_ok-part.part.segment in
    let more : AreOpen flow places exits c.in_ok-part.part.entry (segment ∷ old) c.args.number =
    open-more flow places exits c.in_ok-part.part.entry c.callers.entry c.in-Some.caller c.args.number
    c.function-target.result segment old entered named c.in-Some.ensures c.in_ok-part.ensures
    c.callers.invariant.going_on in
    record {
      entered = c.in_ok-part.ensures.entered;
      cited = λ x h.
          c.callers.invariant.cited x
          (cited-in_caller places c.callers.entry c.in-Some.caller x c.in-Some.ensures
          (c.in_ok-part.ensures.traced.up _ x h));
      going_on =
          subst (λ (xs : List PlainSegment). AreOpen flow places exits c.in_ok-part.part.entry xs c.args.number)
          (sym (turned c.callers.list.items c.push-in-Some.new.self.items c.in_ok-part.part.segment
          c.in_ok-push-2.ensures.items))
          more;
    }

pub root_of-root-requires : goal.root_of-root-requires
root_of-root-requires c =
    let entered = c.callers.invariant.entered in
    slice_get_within c.args.found.now.places.items c.callers.entry entered.place entered.at

pub returns-clause-root : goal.returns-clause-root
returns-clause-root c =
    let entered = c.callers.invariant.entered in
    elim entered.cause [
      | inl root ↦
          let number = c.root_of-root.ensures entered.place root.0 entered.at root.1 in
          (entered.place, entered.at, root.1 ∙ ap AtRoot (sym number))
      | inr call ↦ absurd (c.in_default.ensures call.0 (record
          { place = entered.place; at = entered.at; cause = call.1 }))
    ]
