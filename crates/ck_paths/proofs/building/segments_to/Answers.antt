use Rattle.std.proofs.Common.{◌≡◌, ◌++◌, List, [], ◌∷◌, length, map, get_or, sym, ap, subst, arith, length-append}
use Rattle.std.proofs.lemmas.Option.{slice_get-get_or, slice_get_within}
use Rattle.ck_segments.specs.Plain.{PlainSegment, segment_of}
use Rattle.ck_paths.proofs.Segmenting.{IsThere, ascending-take, segments-each, segments-grow}
use Rattle.ck_paths.proofs.building.segments_to.Goals as goal

pub segment_to-requires-clause-there : goal.segment_to-requires-clause-there
segment_to-requires-clause-there c =
    let exits = c.args.exits.now in
    let s = c.exits.s in
    let listed = slice_get-get_or exits s 0 c.exits-test.true in
    let exit = c.requires.there (get_or exits s 0) (s, listed) in
    slice_get_within c.args.found.now.places.items (get_or exits s 0) exit.place exit.at

pub segment_to-requires-clause-ascending : goal.segment_to-requires-clause-ascending
segment_to-requires-clause-ascending c = ascending-take c.args.exits.now c.exits.s c.requires.ascending

pub segment_to-requires-clause-cited : goal.segment_to-requires-clause-cited
segment_to-requires-clause-cited c = λ x h.
    let exits = c.args.exits.now in
    let s = c.exits.s in
    c.requires.closed s (get_or exits s 0) x (slice_get-get_or exits s 0 c.exits-test.true) h

pub exits-preserved : goal.exits-preserved
exits-preserved c =
    let flow = c.args.graph.now in
    let places = c.args.found.now.places.items in
    let exits = c.args.exits.now in
    let s = c.exits.s in
    let old : List PlainSegment = map segment_of c.exits.list.items in
    let segment : PlainSegment = segment_of c.in_ok-part.part.segment in
    let grown : map segment_of c.push.new.self.items ≡ old ++ segment ∷ [] =
    segments-grow flow places exits c.exits.list.items c.push.new.self.items c.in_ok-part.part.segment
    c.in_ok-push.ensures.items in
    record {
      same = omega (arith, ap length grown, length-append old (segment ∷ []), c.exits.invariant.same);
      each = λ k x below at.
          subst (λ (xs : List PlainSegment). IsThere flow places exits xs k x) (sym grown)
          (segments-each flow places exits s old segment c.in_ok-part.part.entry c.exits-test.true c.in_ok-part.ensures
          c.exits.invariant.same c.exits.invariant.each k x below at);
    }

pub returns : goal.returns
returns c = record {
  same = omega (arith, c.exits.invariant.same, c.exits-test.false, c.exits.auto.s-end);
  each = λ s x at.
      c.exits.invariant.each s x
      (omega (arith, slice_get_within c.args.exits.now s x at, c.exits-test.false)) at;
}
