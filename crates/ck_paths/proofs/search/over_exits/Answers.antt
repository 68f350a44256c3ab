use Rattle.std.proofs.Common.{◌≡◌, ◌≤◌, ◌+◌, ◌-◌, ℕ, length, sym, ap, ◌∙◌, subst, arith}
use Rattle.ck_base.specs.declared.spans.PointId.{PointId}
use Rattle.ck_graph.specs.Steps.{exit_of}
use Rattle.ck_paths.specs.declared.found.Place.{Place}
use Rattle.ck_paths.specs.Found.{IsAt, last_at}
use Rattle.ck_paths.specs.Search.{HasExits}
use Rattle.ck_paths.proofs.Links.{LinksTo, LinksTo-start, LinksTo-more}
use Rattle.ck_paths.proofs.Growing.{Grows-none, Grows-then}
use Rattle.ck_paths.proofs.Chains.{at-before, long-kept, exits-start, exits-more}
use Rattle.ck_paths.proofs.search.over_exits.Goals as goal

pub links-init : goal.links-init
links-init c =
    let flow = c.args.graph.now in
    let places = c.args.found.now.places.items in
    let last = c.args.found.now.last.items in
    let p : ℕ = exit_of c.args.graph.now c.args.target.0 in
    let is : c.last_link-link.result ≡ last_at last p = c.last_link-link.ensures ∙
    ap (λ (x : PointId). last_at last x.0) c.exit-exit.ensures in
    record {
      grows = Grows-none flow places last c.requires.ready;
      within = subst (λ (x : ℕ). x ≤ length places) (sym is) (c.requires.ready.linked.heads p);
      there = subst (LinksTo places p) (sym is) (LinksTo-start places last p c.requires.ready.linked);
      passed = subst (HasExits flow places places c.args.calls p) (sym is)
          (exits-start flow places last c.args.calls p c.requires.ready.linked);
    }

pub linked-ends-requires-clause-within : goal.linked-ends-requires-clause-within
linked-ends-requires-clause-within c = long-kept c.args.found.now.places.items c.links.found.places.items c.links.link
    c.args.calls c.links.invariant.grows.kept c.links-test.true c.links.invariant.within

pub over_call-requires-clause-ends : goal.over_call-requires-clause-ends
over_call-requires-clause-ends c =
    c.links.invariant.there (c.links.link - 1) c.linked-ends.result (omega (arith, c.links-test.true))
    (at-before c.args.found.now.places.items c.links.found.places.items (c.links.link - 1) c.linked-ends.result
    c.links.invariant.grows.kept (omega (arith, c.links.invariant.within, c.links-test.true))
    c.linked-ends.ensures.at)

pub links-preserved : goal.links-preserved
links-preserved c =
    let flow = c.args.graph.now in
    let old = c.args.found.now.places.items in
    let mid = c.links.found.places.items in
    let new = c.over_call.new.found.places.items in
    let last = c.args.found.now.last.items in
    let p : ℕ = exit_of c.args.graph.now c.args.target.0 in
    let n : ℕ = c.links.link - 1 in
    let place : Place = c.linked-ends.result in
    let number : c.links.link ≡ n + 1 = omega (arith, c.links-test.true) in
    let at : IsAt old n place = at-before old mid n place c.links.invariant.grows.kept
    (omega (arith, c.links.invariant.within, c.links-test.true)) c.linked-ends.ensures.at in
    let point : place.point.0 ≡ p = c.links.invariant.there n place number at in
    let grew = c.in_ok-over_call.ensures.grows in
    record {
      grows = Grows-then flow old mid new c.links.found.last.items c.over_call.new.found.last.items
          c.links.invariant.grows grew;
      within = omega (arith, c.linked-ends.ensures.back, c.links.invariant.within);
      there = LinksTo-more old last p n place c.requires.ready.linked at point;
      passed = exits-more flow old mid new last c.args.calls p n place c.requires.ready.linked at point grew.kept
          c.in_ok-over_call.ensures.next
          (subst (HasExits flow old mid c.args.calls p) number c.links.invariant.passed);
    }
