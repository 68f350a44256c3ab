use Rattle.std.proofs.Common.{◌≡◌, ◌≤◌, ◌+◌, length, sym, subst, ap, ◌∙◌, arith}
use Rattle.std.proofs.lemmas.List.{length_push}
use Rattle.ck_tables.specs.StmtTable.{IsNode}
use Rattle.ck_counts.specs.Weights.{StatementsCount}
use Rattle.ck_counts.proofs.TableWeights.{statements_push}
use Rattle.ck_counts.proofs.statements.count_up_to.Goals as goal

pub nodes-preserved : goal.nodes-preserved
nodes-preserved c =
    let l = c.args.program.now.linked in
    let cs = c.nodes.counted.items in
    let long : c.len-in-nodes.result ≡ length cs = grind arith in
    let node = subst (λ k. IsNode l.stmts k c.statement-next.result.now) long c.statement-next.ensures.meaning in
    let count = statements_push l cs c.in_ok-count.count c.statement-next.result.now c.nodes.invariant.count node
    c.in_ok-count.ensures.is in
    let longer = ap length c.in_ok-push.ensures.items ∙ length_push cs c.in_ok-count.count in
    let more = c.nodes.invariant.more in
    record {
      known = c.in_ok-count.ensures.known;
      count = subst (StatementsCount l) (sym c.in_ok-push.ensures.items) count;
      more = omega (arith, longer, more);
    }
