use Rattle.std.proofs.Common.{◌≡◌, ◌+◌, take, sym, subst}
use Rattle.ck_numbering.specs.Counts.{AreCounts}
use Rattle.ck_tables.specs.Program.{functions, plain_body}
use Rattle.ck_tables.specs.Rows.{IsRow}
use Rattle.ck_counts.proofs.CountLemmas.{counts-next}
use Rattle.ck_counts.proofs.functions.counts.Goals as goal

pub functions-preserved : goal.functions-preserved
functions-preserved c =
    let l = c.args.program.now.linked in
    let i = c.functions.index in
    let f = plain_body l c.body-body.result.now in
    let row = subst (λ k. IsRow (functions l) k f) c.in_ok-number_of.ensures c.body-body.ensures.function in
    let next =
    counts-next (functions l) i f c.functions.counts.items c.in_ok-points.points.0 c.functions.invariant.are row
    c.in_ok-points.ensures.is in
    record {
      known = c.in_ok-points.ensures.known;
      count = c.in_ok-points.ensures.count;
      are = subst (AreCounts (take (i + 1) (functions l))) (sym c.in_ok-push.ensures.items) next;
    }
