use Rattle.std.proofs.Common.{rules, ◌≡◌, ◌<◌, ◌≤◌, ◌+◌, ◌*◌, true, get_or, refl, ap, subst, sym, ◌∙◌, arith}
use Rattle.std.proofs.lemmas.List.{get_or_default}
use Rattle.std.specs.List.{list_all}
use Rattle.ck_call_rows.proofs.Added.{leads_start, adds_then, adds_nothing}
use Rattle.ck_call_rows.proofs.Elements.{holds-next}
use Rattle.ck_call_rows.proofs.FirstElements.{item-first}
use Rattle.ck_call_rows.proofs.Items.{items_depth-next, items_depth-below, block-fits, block-below}
use Rattle.ck_call_rows.proofs.Loops.{each_more}
use Rattle.ck_call_rows.specs.Walks.{tables, statement, path_of, Adds, items_depth, calls_of_item}
use Rattle.ck_prog.specs.Calls.{calls_in_statement, calls_in_items, calls_in_start}
use Rattle.ck_prog.specs.Paths as part
use Rattle.ck_prog.specs.Paths.{below}
use Rattle.ck_tables.specs.Numbers.{numbers, item_fits, statement_node_fits}
use Rattle.ck_tables.specs.Program.{body_readings}
use Rattle.ck_tables.specs.StmtTable.{make, items_of, plain_start, reads_below}
use Rattle.ck_tables.specs.declared.stmts.StmtNode.TheVariants as nodes
use Rattle.ck_call_rows.proofs.walk.Walk.+statements.Goals as goal

pub items-each-preserved : goal.items-each-preserved
items-each-preserved t c =
    let w = c.args.self.now in
    let l = tables w in
    let π = path_of c.args.path.now in
    let xs = c.args.items.now in
    let i = c.each.number in
    let low = c.each-test.true in
    let test = item_fits (numbers l) in
    let deep = c.each.invariant.depth in
    let less = items_depth-next xs i low in
    record {
      known = holds-next test (list_all test) (λ y ys. refl) xs i c.each.invariant.known low;
      depth = omega arith;
      is =
          each_more w (λ k ys. calls_in_items π k (items_of (body_readings l) (statement l) ys))
          (λ k y. calls_of_item l (below π (part.Item k)) y) (item-first l π)
          _ _ _ i i (i + 1) (get_or xs i _) xs _ c.each.invariant.is low (get_or_default xs i _ _ low) (omega arith)
          c.in_ok-item.ensures;
    }

pub statement-items-requires : goal.statement-items-requires
statement-items-requires t c =
    let n = numbers (tables c.args.self.now) in
    let i = c.args.id.0 in
    let row = c.in-Block.items.items in
    let node = nodes.Block c.in-Block.first c.in-Block.items in
    let same = sym c.as_slice.ensures.value in
    let known : list_all (item_fits n) c.as_slice.result.now ≡ true =
    subst (λ xs. list_all (item_fits n) xs ≡ true) same
    (block-fits n node (subst (λ s. statement_node_fits n s ≡ true) c.in-Block.is c.statement_node.ensures.fits)) in
    let deep : items_depth row ≤ 4 * i =
    items_depth-below i row
    (block-below i node (subst (λ s. reads_below i s ≡ true) c.in-Block.is c.statement_node.ensures.meaning.below)) in
    let here : items_depth c.as_slice.result.now ≤ 4 * i = subst (λ xs. items_depth xs ≤ 4 * i) same deep in
    let smaller : items_depth c.as_slice.result.now + 2 < 4 * i + 3 = omega arith in
    search rules

pub controlled-returns : goal.controlled-returns
controlled-returns t c =
    adds_then c.args.self.now c.inner.result _ _ _ _ _ c.in_ok-operand.ensures c.inner.ensures

pub if_else-returns : goal.if_else-returns
if_else-returns t c =
    let w = c.args.self.now in
    adds_then w c.inner-2.result _ _ _ _ _ c.in_ok-operand.ensures
    (adds_then w c.inner-2.result _ _ _ _ _ c.in_ok-inner.ensures c.inner-2.ensures)

pub do_loop-returns : goal.do_loop-returns
do_loop-returns t c =
    adds_then c.args.self.now c.operand.result _ _ _ _ _ c.in_ok-inner.ensures c.operand.ensures

pub for_loop-returns : goal.for_loop-returns
for_loop-returns t c =
    let w = c.args.self.now in
    let start : Adds w c.args.rows.now.rows.items c.start.new.rows.rows.items
    (calls_in_start (below (path_of c.args.path.now) part.ForStart)
    (plain_start (body_readings (tables w)) c.args.start)) =
    subst
    (λ π. Adds w c.args.rows.now.rows.items c.start.new.rows.rows.items
    (calls_in_start π (plain_start (body_readings (tables w)) c.args.start)))
    c.below-inside.ensures c.in_ok-start.ensures in
    adds_then w c.inner.result _ _ _ _ _ start
    (adds_then w c.inner.result _ _ _ _ _ c.in_ok-maybe.ensures
    (adds_then w c.inner.result _ _ _ _ _ c.in_ok-maybe-2.ensures c.inner.ensures))

pub items-each-init : goal.items-each-init
items-each-init t c = record { known = c.requires; depth = omega arith; is = leads_start c.args.self.now _ _ }

pub statement-returns-in-Empty : goal.statement-returns-in-Empty
statement-returns-in-Empty t c =
    let l = tables c.args.self.now in
    let b = body_readings l in
    adds_nothing c.args.self.now _ _ (ap (calls_in_statement (path_of c.args.path.now))
    (c.statement_node.ensures.meaning.tree b ∙ ap (make b (statement l)) c.in-Empty.is))

pub statement-returns-in-Goto : goal.statement-returns-in-Goto
statement-returns-in-Goto t c =
    let l = tables c.args.self.now in
    let b = body_readings l in
    adds_nothing c.args.self.now _ _ (ap (calls_in_statement (path_of c.args.path.now))
    (c.statement_node.ensures.meaning.tree b ∙ ap (make b (statement l)) c.in-Goto.is))

pub statement-returns-in-Jump : goal.statement-returns-in-Jump
statement-returns-in-Jump t c =
    let l = tables c.args.self.now in
    let b = body_readings l in
    adds_nothing c.args.self.now _ _ (ap (calls_in_statement (path_of c.args.path.now))
    (c.statement_node.ensures.meaning.tree b ∙ ap (make b (statement l)) c.in-Jump.is))

pub statement-returns-in-Return : goal.statement-returns-in-Return
statement-returns-in-Return t c =
    let l = tables c.args.self.now in
    let b = body_readings l in
    adds_nothing c.args.self.now _ _ (ap (calls_in_statement (path_of c.args.path.now))
    (c.statement_node.ensures.meaning.tree b ∙ ap (make b (statement l)) c.in-Return.is))
