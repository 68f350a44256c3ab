use Rattle.std.proofs.Common.{arith}
use Rattle.ck_graph.specs.Steps.{first_of}
use Rattle.ck_paths.proofs.Growing.{has-kept}
use Rattle.ck_paths.proofs.Closing.{closed-over}
use Rattle.ck_graph.proofs.Coverage.{related-from_ReachesPair}
use Rattle.ck_paths.specs.Found.{HasPlace}
use Rattle.ck_paths.proofs.search.search_from.Goals as goal

pub loop-number-preserved : goal.loop-number-preserved
loop-number-preserved c =
    let old = c.loop-number.found.places.items in
    let new = c.pass_next.new.found.places.items in
    let grew = c.in_ok-pass_next.ensures.grows in
    record {
      ready = grew.ready;
      justified = grew.justified c.args.roots.now c.loop-number.invariant.justified;
      entered = λ root listed. has-kept old new (first_of c.args.graph.now root.function.0) root.start root.start
          grew.kept (c.loop-number.invariant.entered root listed);
      closed = c.in_ok-pass_next.ensures.closed c.loop-number.invariant.closed;
    }

pub returns-then-number-len-clause-all : goal.returns-then-number-len-clause-all
returns-then-number-len-clause-all c =
    let places = c.loop-number.found.places.items in
    let flow = c.args.graph.now in
    related-from_ReachesPair flow (HasPlace places) c.points-points.ensures.sound
    (closed-over flow places c.loop-number.number
    (omega (arith, c.len.ensures, c.if-number-len.true, c.loop-number.found.places.ok.0))
    c.loop-number.invariant.closed)
    c.args.roots.now c.loop-number.invariant.entered
