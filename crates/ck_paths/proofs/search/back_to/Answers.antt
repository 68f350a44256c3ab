use Rattle.std.proofs.Common.{◌≡◌, ◌≤◌, ◌+◌, ◌-◌, ℕ, length, sym, subst, arith}
use Rattle.ck_graph.specs.Steps.{MayEnter}
use Rattle.ck_paths.specs.declared.found.Place.{Place}
use Rattle.ck_paths.specs.Found.{IsAt, last_at}
use Rattle.ck_paths.specs.Search.{HasCallers}
use Rattle.ck_paths.proofs.Links.{LinksTo, LinksTo-start, LinksTo-more}
use Rattle.ck_paths.proofs.Growing.{Grows-none, Grows-then}
use Rattle.ck_paths.proofs.Chains.{at-before, long-kept, callers-start, callers-more}
use Rattle.ck_paths.proofs.search.back_to.Goals as goal

pub links-init : goal.links-init
links-init c =
    let flow = c.args.graph.now in
    let places = c.args.found.now.places.items in
    let last = c.args.found.now.last.items in
    let p : ℕ = c.args.caller.0 in
    let is : c.last_link-link.result ≡ last_at last p = c.last_link-link.ensures in
    record {
      grows = Grows-none flow places last c.requires.ready;
      within = subst (λ (x : ℕ). x ≤ length places) (sym is) (c.requires.ready.linked.heads p);
      there = subst (LinksTo places p) (sym is) (LinksTo-start places last p c.requires.ready.linked);
      passed = subst (HasCallers flow places places c.args.ends p) (sym is)
          (callers-start flow places last c.args.ends p c.requires.ready.linked);
    }

pub linked-calls-requires-clause-within : goal.linked-calls-requires-clause-within
linked-calls-requires-clause-within c = long-kept c.args.found.now.places.items c.links.found.places.items
    c.links.link c.args.ends c.links.invariant.grows.kept c.links-test.true c.links.invariant.within

pub over_call-requires-clause-target : goal.over_call-requires-clause-target
over_call-requires-clause-target c =
    subst (λ (p : ℕ). MayEnter c.args.graph.now p c.args.target.0)
    (sym (c.links.invariant.there (c.links.link - 1) c.linked-calls.result (omega (arith, c.links-test.true))
    (at-before c.args.found.now.places.items c.links.found.places.items (c.links.link - 1) c.linked-calls.result
    c.links.invariant.grows.kept (omega (arith, c.links.invariant.within, c.links-test.true))
    c.linked-calls.ensures.at)))
    c.requires.target

pub links-preserved : goal.links-preserved
links-preserved c =
    let flow = c.args.graph.now in
    let old = c.args.found.now.places.items in
    let mid = c.links.found.places.items in
    let new = c.over_call.new.found.places.items in
    let last = c.args.found.now.last.items in
    let p : ℕ = c.args.caller.0 in
    let n : ℕ = c.links.link - 1 in
    let place : Place = c.linked-calls.result in
    let number : c.links.link ≡ n + 1 = omega (arith, c.links-test.true) in
    let at : IsAt old n place = at-before old mid n place c.links.invariant.grows.kept
    (omega (arith, c.links.invariant.within, c.links-test.true)) c.linked-calls.ensures.at in
    let point : place.point.0 ≡ p = c.links.invariant.there n place number at in
    let grew = c.in_ok-over_call.ensures.grows in
    record {
      grows = Grows-then flow old mid new c.links.found.last.items c.over_call.new.found.last.items
          c.links.invariant.grows grew;
      within = omega (arith, c.linked-calls.ensures.back, c.links.invariant.within);
      there = LinksTo-more old last p n place c.requires.ready.linked at point;
      passed = callers-more flow old mid new last c.args.ends p n place c.requires.ready.linked at point grew.kept
          c.in_ok-over_call.ensures.next
          (subst (HasCallers flow old mid c.args.ends p) number c.links.invariant.passed);
    }
