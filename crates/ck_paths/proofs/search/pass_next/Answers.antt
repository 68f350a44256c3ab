use Rattle.std.proofs.Common.{◌≡◌, ℕ, ◌<◌, length, refl, sym, ap, ◌∙◌, subst, arith}
use Rattle.std.proofs.lemmas.Option.{slice_get_read}
use Rattle.ck_base.specs.declared.spans.FnId.{FnId}
use Rattle.ck_graph.specs.Flow.{function_count}
use Rattle.ck_summary.specs.Solution.{callers_at}
use Rattle.ck_paths.specs.declared.found.Place.{Place}
use Rattle.ck_paths.specs.Found.{IsAt}
use Rattle.ck_paths.specs.Justified.{function_of}
use Rattle.ck_paths.specs.Search.{AreCallersOf}
use Rattle.ck_paths.proofs.Closing.{closed-more}
use Rattle.ck_paths.proofs.search.pass_next.Goals as goal

pub callers-requires : goal.callers-requires
callers-requires c =
    let flow = c.args.graph.now in
    let place : Place = c.index-place.result.now in
    let at : IsAt c.args.found.now.places.items c.args.number place =
    slice_get_read c.args.found.now.places.items (length c.args.found.now.places.items) c.args.number place refl
    c.requires.there c.index-place.ensures in
    let point : place.point.0 < _ = c.requires.ready.linked.points c.args.number place at in
    let below : function_of flow place < function_count flow =
    (c.requires.sound.points place.point.0 (omega (arith, point, c.requires.ready.size))).function in
    let named : c.function-function.result.0 ≡ function_of flow place =
    ap (λ (x : FnId). x.0) c.function-function.ensures in
    omega (arith, named, below, c.requires.table.callers.functions)

pub pass_on-requires-clause-callers : goal.pass_on-requires-clause-callers
pass_on-requires-clause-callers c =
    let flow = c.args.graph.now in
    let place : Place = c.index-place.result.now in
    let callers = c.args.table.now.callers in
    let at : IsAt c.args.found.now.places.items c.args.number place =
    slice_get_read c.args.found.now.places.items (length c.args.found.now.places.items) c.args.number place refl
    c.requires.there c.index-place.ensures in
    let f : ℕ = function_of flow place in
    let point : place.point.0 < _ = c.requires.ready.linked.points c.args.number place at in
    let below : f < function_count flow = (c.requires.sound.points place.point.0
    (omega (arith, point, c.requires.ready.size))).function in
    let named : c.function-function.result.0 ≡ f = ap (λ (x : FnId). x.0) c.function-function.ensures in
    let list : c.callers.result.now ≡ callers_at callers f = c.callers.ensures ∙ ap (callers_at callers) named in
    subst (AreCallersOf flow f) (sym list) (record { exactly = c.requires.table.callers.exactly f below })

pub returns-clause-closed : goal.returns-clause-closed
returns-clause-closed c = λ closed.
    let place : Place = c.index-place.result.now in
    let at : IsAt c.args.found.now.places.items c.args.number place =
    slice_get_read c.args.found.now.places.items (length c.args.found.now.places.items) c.args.number place refl
    c.requires.there c.index-place.ensures in
    closed-more c.args.graph.now c.args.found.now.places.items c.pass_on.new.found.places.items c.args.number place
    c.requires.sound c.in_ok-pass_on.ensures.grows.kept at c.in_ok-pass_on.ensures.passed closed
