use Rattle.std.proofs.Common.{◌≡◌, true, false, None, length, refl, sym, subst}
use Rattle.std.proofs.lemmas.Option.{slice_get_read}
use Rattle.ck_paths.specs.declared.found.Place.{Place}
use Rattle.ck_paths.specs.Found.{IsAt}
use Rattle.ck_paths.specs.Citing.{GoesBack}
use Rattle.ck_paths.proofs.Citations.{back-edge, back-over, back-caller, cites-caller, cites-root}
use Rattle.ck_paths.proofs.exits.before.Goals as goal

pub returns-in-ByEdge : goal.returns-in-ByEdge
returns-in-ByEdge c =
    let places = c.args.found.now.places.items in
    let place : Place = c.index.result.now in
    let at : IsAt places c.args.at place =
    slice_get_read places (length places) c.args.at place refl c.requires.there c.index.ensures in
    back-edge c.args.graph.now c.args.roots.now places c.requires.justified c.args.on c.args.at c.in-ByEdge.from
    c.in-ByEdge.field-1 place at c.in-ByEdge.is

pub returns-in-OverCall : goal.returns-in-OverCall
returns-in-OverCall c =
    let places = c.args.found.now.places.items in
    let place : Place = c.index.result.now in
    let at : IsAt places c.args.at place =
    slice_get_read places (length places) c.args.at place refl c.requires.there c.index.ensures in
    back-over c.args.graph.now c.args.roots.now places c.requires.justified c.args.on c.args.at c.in-OverCall.from
    c.in-OverCall.exit place at c.in-OverCall.is

pub returns-then-on : goal.returns-then-on
returns-then-on c =
    let places = c.args.found.now.places.items in
    let place : Place = c.index.result.now in
    let at : IsAt places c.args.at place =
    slice_get_read places (length places) c.args.at place refl c.requires.there c.index.ensures in
    subst (λ on. GoesBack places on c.args.at c.in-IntoCall.from None) (sym c.if-on.true)
    (back-caller c.args.graph.now c.args.roots.now places c.requires.justified c.args.at c.in-IntoCall.from place at
    c.in-IntoCall.is)

pub returns-else-on : goal.returns-else-on
returns-else-on c = λ x cites.
    let places = c.args.found.now.places.items in
    let place : Place = c.index.result.now in
    let at : IsAt places c.args.at place =
    slice_get_read places (length places) c.args.at place refl c.requires.there c.index.ensures in
    let on : c.args.on ≡ true =
    (cites-caller places c.args.on c.args.at c.in-IntoCall.from x place at c.in-IntoCall.is cites).0 in
    let off : c.args.on ≡ false = c.if-on.false in
    absurd (cc)

pub returns-in-AtRoot : goal.returns-in-AtRoot
returns-in-AtRoot c = λ x cites.
    let places = c.args.found.now.places.items in
    let place : Place = c.index.result.now in
    let at : IsAt places c.args.at place =
    slice_get_read places (length places) c.args.at place refl c.requires.there c.index.ensures in
    cites-root places c.args.on c.args.at c.in-AtRoot.field-0 x place at c.in-AtRoot.is cites
