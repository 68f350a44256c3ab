use Rattle.std.proofs.Common.{◌≡◌, ◌++◌, ◌+◌, ◌∷◌, [], length, set, sym, subst, List, ℕ, arith, length-set}
use Rattle.std.proofs.lemmas.List.{get_or_read}
use Rattle.ck_paths.specs.declared.found.Place.{Place}
use Rattle.ck_paths.specs.Found.{AreLinked, last_at, one_more}
use Rattle.ck_paths.proofs.Links.{linked-add}
use Rattle.ck_paths.proofs.found.Found.add.Goals as goal

pub returns : goal.returns
unfolding last_at
returns c =
    let places = c.args.self.now.places.items in
    let last = c.args.self.now.last.items in
    let p = c.args.point.0 in
    let place : Place = record {
      point = c.args.point;
      from = c.args.from;
      to = c.args.to;
      reason =
          c.args.reason;
      same = c.index-same.result.now;
    } in
    let is : place.same ≡ last_at last p = get_or_read last p place.same c.requires.point c.index-same.ensures 0 in
    let items : c.push.new.self.items ≡ places ++ place ∷ [] = c.in_ok-push.ensures.items in
    let count : c.len-number.result ≡ length places = omega (arith, c.args.self.now.places.ok.0) in
    record {
      added = one_more place.same items;
      linked = subst (λ (xs : List Place). AreLinked xs (set last p (c.len-number.result + 1))) (sym items)
          (subst (λ (x : ℕ). AreLinked (places ++ place ∷ []) (set last p (x + 1))) (sym count)
          (linked-add places last place c.requires.linked c.requires.point is));
      size = length-set last p (c.len-number.result + 1);
    }
