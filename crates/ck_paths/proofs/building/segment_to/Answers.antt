use Rattle.std.proofs.Common.{length, refl, ap, ◌∙◌}
use Rattle.std.proofs.lemmas.Option.{slice_get_read, slice_get_within}
use Rattle.ck_paths.specs.declared.found.Place.{Place}
use Rattle.ck_paths.specs.Found.{IsAt}
use Rattle.ck_paths.specs.Tracing.{own_function}
use Rattle.ck_paths.proofs.Citations.{one}
use Rattle.ck_paths.proofs.building.segment_to.Goals as goal

pub returns : goal.returns
returns c =
    let places = c.args.found.now.places.items in
    let n = c.in_ok-traced.traced.entry in
    let entered = c.in_ok-traced.ensures.entry in
    let place : Place = c.index.result.now in
    let at : IsAt places n place =
    slice_get_read places (length places) n place refl (slice_get_within places n entered.place entered.at)
    c.index.ensures in
    record {
      entered = entered;
      traced = c.in_ok-traced.ensures.traced;
      function = c.function-function.ensures ∙ ap (own_function c.args.graph.now)
          (one places n place entered.place at entered.at);
    }
