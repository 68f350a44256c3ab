use Rattle.std.proofs.Common.{◌++◌, [], ◌∷◌, ◌≡◌, length, sym, ap, subst, ◌∙◌, arith}
use Rattle.ck_tables.specs.ExprTable.{IsNode}
use Rattle.ck_counts.specs.Weights.{AreWeighed}
use Rattle.ck_counts.proofs.TableWeights.{weighed_push}
use Rattle.ck_counts.proofs.expressions.expression.Goals as goal

pub nodes-preserved : goal.nodes-preserved
nodes-preserved c =
    let l = c.args.program.now.linked in
    let ws = c.nodes.weighed.items in
    let long : c.len-in-nodes.result ≡ length ws = grind arith in
    let node = subst (λ k. IsNode l.exprs k c.expression-next.result.now) long c.expression-next.ensures.meaning in
    subst (AreWeighed l) (sym c.in_ok-push.ensures.items)
    (weighed_push l ws c.node_value-value.result c.expression-next.result.now c.nodes.invariant node
    c.node_value-value.ensures)
