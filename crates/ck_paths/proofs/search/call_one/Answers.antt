use Rattle.ck_graph.proofs.SoundGraphs.{target-below}
use Rattle.ck_graph.specs.Steps.{first_of}
use Rattle.ck_paths.proofs.Growing.{Grows-then, has-kept}
use Rattle.ck_paths.proofs.search.call_one.Goals as goal

pub over_exits-requires-clause-exit : goal.over_exits-requires-clause-exit
over_exits-requires-clause-exit c = (c.requires.sound.functions c.args.target.0
    (target-below c.args.graph.now c.requires.sound c.args.calls.point.0 c.args.target.0 c.requires.target)).exit.there

pub over_exits-requires-clause-function : goal.over_exits-requires-clause-function
over_exits-requires-clause-function c = target-below c.args.graph.now c.requires.sound c.args.calls.point.0
    c.args.target.0 c.requires.target

pub returns-clause-grows : goal.returns-clause-grows
returns-clause-grows c = Grows-then c.args.graph.now c.args.found.now.places.items c.into_call.new.found.places.items
    c.over_exits.new.found.places.items c.into_call.new.found.last.items c.over_exits.new.found.last.items
    c.in_ok-into_call.ensures.grows c.in_ok-over_exits.ensures.grows

pub returns-clause-passed : goal.returns-clause-passed
returns-clause-passed c = record {
  inside = has-kept c.into_call.new.found.places.items c.over_exits.new.found.places.items
      (first_of c.args.graph.now c.args.target.0) c.args.calls.to c.args.calls.to
      c.in_ok-over_exits.ensures.grows.kept c.in_ok-into_call.ensures.there;
  back = λ x ends at point past same. c.in_ok-over_exits.ensures.exits x ends
      (c.in_ok-into_call.ensures.grows.kept x ends at) point past same;
}
