use Rattle.std.proofs.Common.{refl, inl, inr, arith}
use Rattle.ck_rows.proofs.SinglePairs.{added, added-pairs}
use Rattle.ck_rows.proofs.pairs.add_pair.Goals as goal

pub returns : goal.returns
returns c =
    let rows = c.args.rows.now in
    let i = c.args.from in
    let t = c.args.to in
    let both = added rows i t (omega arith) c.requires.from c.requires.to in
    record {
      pairs = added-pairs rows i t (omega arith) c.requires.from c.requires.to;
      there = (both i t).1 (inr (refl, refl));
      kept = λ a b h. (both a b).1 (inl h);
      only = λ a b. (both a b).0;
    }
