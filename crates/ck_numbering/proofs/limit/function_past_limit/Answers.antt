use Rattle.std.proofs.Common.{arith, ap, sym, ◌∙◌, add-one, drop_of_length-le}
use Rattle.std.specs.Prelude.{◌+◌, ◌-◌, ◌≤◌, suc, drop, slice_index_or}
use Rattle.ck_points.specs.Graphs.{passing_from, most_points}
use Rattle.ck_numbering.proofs.CountLemmas.{as_many, counted, passes, goes_on}
use Rattle.ck_numbering.proofs.limit.function_past_limit.Goals as goal

pub returns-then-count-sum-clause-some : goal.returns-then-count-sum-clause-some
returns-then-count-sum-clause-some c fs are =
    let n = slice_index_or c.args.counts.now c.counts.number 0 in
    let (f, is, rest, count) = counted fs c.args.counts.now c.counts.number are c.counts-test.true in (
      f,
      is,
      c.counts.invariant.1 fs are ∙ ap (passing_from c.counts.sum) rest
          ∙ passes f (drop (suc c.counts.number) fs) n c.counts.sum count c.if-count-sum.true,
    )

pub counts-preserved : goal.counts-preserved
counts-preserved c =
    let n = slice_index_or c.args.counts.now c.counts.number 0 in
    let kept = c.counts.invariant.0 in
    let low : n ≤ most_points - c.counts.sum = omega (arith, c.if-count-sum.false) in (
      omega (arith, kept, low),
      λ fs are.
          let (f, is, rest, count) = counted fs c.args.counts.now c.counts.number are c.counts-test.true in
          c.counts.invariant.1 fs are ∙ ap (passing_from c.counts.sum) rest
          ∙ goes_on f (drop (suc c.counts.number) fs) n c.counts.sum kept count low
          ∙ ap (λ k. passing_from (c.counts.sum + n) (drop k fs)) (sym (add-one c.counts.number)),
    )

pub returns-clause-none : goal.returns-clause-none
returns-clause-none c fs are =
    let same = as_many fs c.args.counts.now are in
    c.counts.invariant.1 fs are
    ∙ ap (passing_from c.counts.sum) (drop_of_length-le fs (omega (arith, same, c.counts-test.false)))
