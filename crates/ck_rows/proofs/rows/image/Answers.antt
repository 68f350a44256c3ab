use Rattle.std.proofs.Common.{arith}
use Rattle.ck_rows.specs.Relation.{rows_of}
use Rattle.ck_rows.proofs.Compositions.{AreComposed-next}
use Rattle.ck_rows.proofs.PairLists.{HaveSamePairs-composition}
use Rattle.ck_rows.proofs.rows.image.Goals as goal

pub steps-preserved : goal.steps-preserved
steps-preserved c =
    AreComposed-next c.args.rows.now (rows_of c.args.step.now) c.steps.j (omega arith) (omega arith)
    c.steps.all c.joined_where-all.result (omega arith) c.joined_where-all.ensures c.steps.invariant

pub returns-clause-pairs : goal.returns-clause-pairs
returns-clause-pairs c =
    let s = c.steps.invariant in
    HaveSamePairs-composition c.args.rows.now (rows_of c.args.step.now) (rows_of c.steps.all)
    (λ i j k a b. s.composed j (omega (arith, b.from_below)) i k a b) s.only
