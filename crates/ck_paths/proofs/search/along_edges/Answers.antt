use Rattle.std.proofs.Common.{◌≡◌, ℕ, List, get_or, Some, slice_get, refl, sym, ap, ◌∙◌, subst, inl, inr, arith}
use Rattle.std.proofs.lemmas.Bool.{cases_lt}
use Rattle.std.proofs.lemmas.Option.{slice_get_within, slice_get-get_or, same_Some}
use Rattle.ck_graph.specs.declared.points.Edge.{Edge}
use Rattle.ck_graph.specs.Steps.{HasEdge}
use Rattle.ck_paths.specs.declared.found.Reason.TheVariants.{ByEdge}
use Rattle.ck_paths.specs.Found.{HasPlace}
use Rattle.ck_paths.proofs.Growing.{Grows-then, has-kept}
use Rattle.ck_paths.proofs.Steps.{goes-along}
use Rattle.ck_paths.proofs.search.along_edges.Goals as goal

pub put-requires-clause-holds : goal.put-requires-clause-holds
put-requires-clause-holds c = λ same roots.
    let flow = c.args.graph.now in
    let edges : List Edge = c.edges-edges.result.now in
    let k : ℕ = c.loop-k.k in
    let edge : Edge = get_or edges k _ in
    let has : HasEdge flow c.args.place.point.0 k edge = ap (λ (xs : List Edge). slice_get xs k)
    (sym c.edges-edges.ensures) ∙ slice_get-get_or edges k _ c.loop-k-test.true in
    goes-along flow c.loop-k.found.places.items c.args.number k c.args.place
    (record {
      point = edge.to;
      from = c.args.place.from;
      to = c.args.next;
      reason = ByEdge c.args.number k;
      same =
          same;
    }) edge c.requires.sound
    (c.loop-k.invariant.grows.kept c.args.number c.args.place c.requires.at) has c.requires.leads refl refl

pub loop-k-preserved : goal.loop-k-preserved
loop-k-preserved c = record {
  grows = Grows-then c.args.graph.now c.args.found.now.places.items c.loop-k.found.places.items
      c.put.new.found.places.items c.loop-k.found.last.items c.put.new.found.last.items c.loop-k.invariant.grows
      c.in_ok-put.ensures.grows;
  next = λ k edge below has. elim (cases_lt k c.loop-k.k) [
    | inl before ↦ has-kept c.loop-k.found.places.items c.put.new.found.places.items edge.to.0 c.args.place.from
        c.args.next c.in_ok-put.ensures.grows.kept (c.loop-k.invariant.next k edge before has)
    | inr last ↦
        let edges : List Edge = c.edges-edges.result.now in
        let number : k ≡ c.loop-k.k = omega (arith, last, below) in
        let read : Some edge ≡ Some (get_or edges c.loop-k.k _) = sym has ∙
        (ap (λ (xs : List Edge). slice_get xs k) (sym c.edges-edges.ensures) ∙
        (ap (slice_get edges) number ∙ slice_get-get_or edges c.loop-k.k _ c.loop-k-test.true)) in
        let same : get_or edges c.loop-k.k _ ≡ edge = sym (same_Some edge (get_or edges c.loop-k.k _) read) in
        subst (λ (e : Edge). HasPlace c.put.new.found.places.items e.to.0 c.args.place.from c.args.next) same
        c.in_ok-put.ensures.there
  ];
}

pub returns-clause-next : goal.returns-clause-next
returns-clause-next c = λ k edge has.
    c.loop-k.invariant.next k edge (omega (
      arith,
      c.loop-k-test.false,
      slice_get_within c.edges-edges.result.now k
          edge (ap (λ (xs : List Edge). slice_get xs k) c.edges-edges.ensures ∙ has),
    )) has
