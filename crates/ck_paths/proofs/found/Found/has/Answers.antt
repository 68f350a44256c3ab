use Rattle.std.proofs.Common.{◌≡◌, ◌≤◌, ℕ, ◌+◌, ◌-◌, length, sym, subst, refl, arith}
use Rattle.std.proofs.lemmas.List.{get_or_read}
use Rattle.std.proofs.lemmas.Option.{slice_get_read}
use Rattle.ck_paths.specs.declared.found.Place.{Place}
use Rattle.ck_paths.specs.Found.{IsAt, last_at}
use Rattle.ck_paths.proofs.Links.{Passed, LinksTo, Passed-start, Passed-more, LinksTo-start, LinksTo-more}
use Rattle.ck_paths.proofs.found.Found.has.Goals as goal
use Rattle.ck_paths.proofs.found.Found.has.Goals.{else-is_same-via-then-is_same+else-is_same-2}
use Rattle.ck_paths.proofs.found.Found.has.Goals.{else-is_same-via-else-is_same}

pub links-init : goal.links-init
unfolding last_at
links-init c =
    let places = c.args.self.now.places.items in
    let last = c.args.self.now.last.items in
    let p = c.args.point.0 in
    let is : c.index-link.result.now ≡ last_at last p = get_or_read last p c.index-link.result.now c.requires.point
    c.index-link.ensures 0 in
    record {
      within = subst (λ (x : ℕ). x ≤ length places) (sym is) (c.requires.linked.heads p);
      there = subst (LinksTo places p) (sym is) (LinksTo-start places last p c.requires.linked);
      passed = subst (Passed places p c.args.from c.args.to) (sym is)
          (Passed-start places last p c.args.from c.args.to c.requires.linked);
    }

pub returns-then-is_same-2 : goal.returns-then-is_same-2
returns-then-is_same-2 c =
    let places = c.args.self.now.places.items in
    let place : Place = c.index-place.result.now in
    let at : IsAt places (c.links.link - 1) place = slice_get_read places (length places) (c.links.link - 1) place
    refl (omega (arith, c.links.invariant.within, c.links-test.true)) c.index-place.ensures in
    record {
      number = c.links.link - 1;
      place = place;
      at = at;
      point_is = c.links.invariant.there (c.links.link - 1) place (omega (arith, c.links-test.true)) at;
      from_is = c.if-is_same-2.ensures;
      to_is = c.if-is_same.ensures;
    }

pub links-smaller : goal.links-smaller
links-smaller c =
    let places = c.args.self.now.places.items in
    let place : Place = c.index-place.result.now in
    let at : IsAt places (c.links.link - 1) place = slice_get_read places (length places) (c.links.link - 1) place
    refl (omega (arith, c.links.invariant.within, c.links-test.true)) c.index-place.ensures in
    omega (arith, c.requires.linked.back (c.links.link - 1) place at, c.links-test.true)

pub links-preserved : goal.links-preserved
links-preserved c =
    let places = c.args.self.now.places.items in
    let last = c.args.self.now.last.items in
    let p = c.args.point.0 in
    let n : ℕ = c.links.link - 1 in
    let place : Place = c.index-place.result.now in
    let at : IsAt places n place = slice_get_read places (length places) n place refl
    (omega (arith, c.links.invariant.within, c.links-test.true)) c.index-place.ensures in
    let number : c.links.link ≡ n + 1 = omega (arith, c.links-test.true) in
    let point : place.point.0 ≡ p = c.links.invariant.there n place number at in
    record {
      within = omega (arith, c.requires.linked.back n place at, number, c.links.invariant.within);
      there = LinksTo-more places last p n place c.requires.linked at point;
      passed = Passed-more places last p c.args.from c.args.to n place c.requires.linked at point
          (elim c.else-is_same.branch [
            | else-is_same-via-then-is_same+else-is_same-2 w ↦ (λ f t. w.if-is_same-2.ensures f)
            | else-is_same-via-else-is_same w ↦ (λ f t. w.if-is_same.ensures t)
          ])
          (subst (Passed places p c.args.from c.args.to) number c.links.invariant.passed);
    }
