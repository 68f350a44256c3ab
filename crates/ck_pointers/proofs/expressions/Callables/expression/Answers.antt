use Rattle.std.proofs.Common.{◌≡◌, ◌++◌, [], ◌∷◌, length, sym, subst, arith}
use Rattle.ck_tables.specs.ExprTable.{IsNode}
use Rattle.ck_call_rows.specs.TypedRows.{declarations}
use Rattle.ck_slots.specs.Origins.{origin}
use Rattle.ck_pointers.specs.ExpressionSources.{AreMade, IsMade, tables, tree_of_node}
use Rattle.ck_pointers.proofs.RowLemmas.{made_more}
use Rattle.ck_pointers.proofs.expressions.Callables.expression.Goals as goal

pub nodes-preserved : goal.nodes-preserved
nodes-preserved c =
    let s = c.args.self.now in
    let now = c.nodes.sources.items in
    let long : c.len-in-nodes.result ≡ length now = grind arith in
    let there = subst (λ k. IsNode (tables s).exprs k c.expression-next.result.now) long
    c.expression-next.ensures.meaning in
    let made = subst (λ xs. IsMade s xs (origin (declarations (tables s)) (tree_of_node s c.expression-next.result.now))
    c.in_ok-source.source c.nodes.rules c.node.new.rules) c.as_slice.ensures.value c.in_ok-source.ensures in
    subst (λ xs. AreMade s c.args.sources.now.items xs c.args.rules.now c.node.new.rules)
    (sym c.in_ok-push.ensures.items)
    (made_more s c.args.sources.now.items now c.in_ok-source.source c.expression-next.result.now c.args.rules.now
    c.nodes.rules c.node.new.rules c.nodes.invariant there made)
