use Rattle.std.proofs.Common.{◌<◌, ap, refl, subst, sym, ℕ}
use Rattle.ck_base.specs.declared.spans.PointId.{PointId}
use Rattle.ck_graph.specs.Flow.{point_count}
use Rattle.ck_graph.proofs.SoundGraphs.{target-below}
use Rattle.ck_paths.specs.Found.{HasPlace}
use Rattle.ck_paths.specs.declared.found.Reason.TheVariants.{IntoCall}
use Rattle.ck_paths.proofs.Steps.{enters}
use Rattle.ck_paths.proofs.search.into_call.Goals as goal

pub first-requires : goal.first-requires
first-requires c = target-below c.args.graph.now c.requires.sound c.args.place.point.0 c.args.target.0 c.requires.target

pub put-requires-clause-point : goal.put-requires-clause-point
put-requires-clause-point c = subst (λ (p : PointId). p.0 < point_count c.args.graph.now) (sym c.first.ensures)
    (c.requires.sound.functions c.args.target.0 (target-below c.args.graph.now c.requires.sound c.args.place.point.0
    c.args.target.0 c.requires.target)).first.there

pub put-requires-clause-holds : goal.put-requires-clause-holds
put-requires-clause-holds c = λ same roots.
    enters c.args.graph.now c.args.found.now.places.items c.args.number c.args.target.0 c.args.place
    (record {
      point = c.first.result;
      from = c.args.place.to;
      to = c.args.place.to;
      reason =
          IntoCall c.args.number;
      same = same;
    }) c.requires.sound c.requires.at c.requires.target
    (ap (λ (p : PointId). p.0) c.first.ensures) refl refl

pub returns-clause-there : goal.returns-clause-there
returns-clause-there c = subst (λ (p : ℕ). HasPlace c.put.new.found.places.items p c.args.place.to c.args.place.to)
    (ap (λ (p : PointId). p.0) c.first.ensures) c.in_ok-put.ensures.there
