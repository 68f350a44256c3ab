use Rattle.std.proofs.Common.{◌≡◌, ℕ, ◌<◌, ◌^◌, ◌⊎◌, get_or, sym, subst, inl, inr, arith}
use Rattle.ck_rows.specs.Relation.{rows_of, Relates}
use Rattle.ck_rows.specs.Room.{room}
use Rattle.ck_rows.proofs.PairLists.{HaveSamePairs-union}
use Rattle.ck_rows.proofs.Unions.{HasGrown, Relates-union, same-or-grown, new-pair, grown-room, is-answer}
use Rattle.ck_rows.proofs.Unions.{true-from_new_pair}
use Rattle.ck_rows.proofs.rows.union_into.Goals as goal

pub returns : goal.returns
unfolding room
returns c =
    let old = c.args.into.now in
    let from = c.args.from.now in
    let now = rows_of c.joined.result in
    let lanes = c.joined.ensures.lanes in
    let fits = c.joined.ensures.fits in
    let union = Relates-union old.mask from.mask now.mask (omega arith) (omega arith) lanes in
    let kept : (i j : ℕ) → Relates old i j → Relates now i j = λ i j h. (union i j).1 (inl h) in
    let grown : (now.mask ≡ old.mask) ⊎ HasGrown old.mask now.mask =
    subst (λ masks. (masks ≡ old.mask) ⊎ HasGrown old.mask masks) (sym lanes)
    (same-or-grown old.mask from.mask (omega arith) (λ k. subst (λ masks. get_or masks k 0 < 2 ^ 16) lanes (fits k))) in
    let answer = is-answer old now c.ne.result grown c.ne.ensures in
    record {
      pairs = HaveSamePairs-union now old from union;
      grew = (
        λ t. new-pair old now (omega arith) fits kept (answer.grown t),
        true-from_new_pair old now c.ne.result answer,
      );
      kept = kept;
      added = λ i j h. (union i j).1 (inr h);
      only = λ i j. (union i j).0;
      unchanged = answer.same;
      room = grown-room old.mask now.mask grown;
      less_room = λ t. (answer.grown t).room;
    }
