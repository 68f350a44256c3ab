use Rattle.std.proofs.Common.{length, refl, inl, inr}
use Rattle.std.proofs.lemmas.Option.{slice_get_read, slice_get_within}
use Rattle.ck_paths.specs.declared.found.Place.{Place}
use Rattle.ck_paths.specs.declared.found.Reason.TheVariants.{AtRoot, IntoCall, OverCall}
use Rattle.ck_paths.specs.Found.{IsAt}
use Rattle.ck_paths.specs.Justified.{StartsAt, Enters, Returns}
use Rattle.ck_paths.specs.Citing.{over}
use Rattle.ck_paths.proofs.Citations.{holds}
use Rattle.ck_paths.proofs.Traces.{leads-edge, leads-call}
use Rattle.ck_paths.proofs.tracing.step_before.Goals as goal

pub returns-in-AtRoot : goal.returns-in-AtRoot
returns-in-AtRoot c =
    let places = c.args.found.now.places.items in
    let place : Place = c.index.result.now in
    let at : IsAt places c.args.at place =
    slice_get_read places (length places) c.args.at place refl c.requires.there c.index.ensures in
    let starts : StartsAt c.args.graph.now c.args.roots.now c.in-AtRoot.field-0 place =
    holds c.args.graph.now c.args.roots.now places c.requires.justified c.args.at place (AtRoot c.in-AtRoot.field-0) at
    c.in-AtRoot.is in
    record { place = place; at = at; entry = starts.entry; cause = inl (c.in-AtRoot.field-0, c.in-AtRoot.is) }

pub returns-in-IntoCall : goal.returns-in-IntoCall
returns-in-IntoCall c =
    let places = c.args.found.now.places.items in
    let place : Place = c.index.result.now in
    let at : IsAt places c.args.at place =
    slice_get_read places (length places) c.args.at place refl c.requires.there c.index.ensures in
    let enters : Enters c.args.graph.now places c.args.at c.in-IntoCall.field-0 place =
    holds c.args.graph.now c.args.roots.now places c.requires.justified c.args.at place
    (IntoCall c.in-IntoCall.field-0) at c.in-IntoCall.is in
    record { place = place; at = at; entry = enters.entry; cause = inr (c.in-IntoCall.field-0, c.in-IntoCall.is) }

pub returns-in-ByEdge : goal.returns-in-ByEdge
returns-in-ByEdge c =
    let places = c.args.found.now.places.items in
    let place : Place = c.index.result.now in
    let at : IsAt places c.args.at place =
    slice_get_read places (length places) c.args.at place refl c.requires.there c.index.ensures in
    leads-edge c.args.graph.now c.args.roots.now places c.args.exits.now c.args.at c.in-ByEdge.from c.in-ByEdge.edge
    place c.requires.justified at c.in-ByEdge.is

pub returns-in-OverCall : goal.returns-in-OverCall
returns-in-OverCall c =
    let flow = c.args.graph.now in
    let places = c.args.found.now.places.items in
    let place : Place = c.index.result.now in
    let at : IsAt places c.args.at place =
    slice_get_read places (length places) c.args.at place refl c.requires.there c.index.ensures in
    let r : Returns flow places c.args.at c.in-OverCall.from c.in-OverCall.exit place =
    holds flow c.args.roots.now places c.requires.justified c.args.at place
    (OverCall c.in-OverCall.from c.in-OverCall.exit) at c.in-OverCall.is in
    let exit : Place = c.index-in-OverCall.result.now in
    let exit_at : IsAt places c.in-OverCall.exit exit =
    slice_get_read places (length places) c.in-OverCall.exit exit refl
    (slice_get_within places c.in-OverCall.exit r.exit r.exit_at) c.index-in-OverCall.ensures in
    leads-call flow c.args.roots.now places c.args.exits.now c.args.at c.in-OverCall.from c.in-OverCall.exit
    c.segment_of-segment.result c.function-target.result place exit c.requires.justified at c.in-OverCall.is exit_at
    c.function-target.ensures
    (c.segment_of-segment.ensures
    (c.requires.cited c.in-OverCall.exit
    (over c.args.at c.in-OverCall.from c.in-OverCall.exit place at c.in-OverCall.is)))
