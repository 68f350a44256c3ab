use Rattle.std.proofs.Common.{arith}
use Rattle.ck_summary.proofs.TableLemmas.{cleared_more, HasNoPairs-from_places}
use Rattle.ck_summary.proofs.solving.clear.Goals as goal

pub loop-rows-preserved : goal.loop-rows-preserved
loop-rows-preserved c =
    cleared_more c.loop-rows.table c.loop-rows.rows-index c.no_pairs.result (omega arith) c.no_pairs.ensures.none
    c.loop-rows.invariant

pub returns : goal.returns
returns c = HasNoPairs-from_places c.loop-rows.table (λ p a b below r. c.loop-rows.invariant p a b (omega arith) r)
