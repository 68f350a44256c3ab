use Rattle.std.proofs.Common.{rules, ◌≡◌, ◌<◌, ◌≤◌, ◌+◌, ◌*◌, [], ◌∷◌, ◌++◌, true, length, ap, subst, sym, ◌∙◌, arith}
use Rattle.std.specs.List.{list_all}
use Rattle.ck_tables.specs.Numbers.{numbers, item_fits, statement_node_fits}
use Rattle.ck_tables.specs.Program.{body_readings}
use Rattle.ck_tables.specs.StmtTable.{items_of, reads_below}
use Rattle.ck_tables.specs.declared.stmts.StmtNode.TheVariants as nodes
use Rattle.ck_bodies.specs.DrawnStatements.{draw_items}
use Rattle.ck_bodies.specs.Jumps.{targets}
use Rattle.ck_bodies.specs.Walks.{tables, made, statement, item_depth, items_depth}
use Rattle.ck_bodies.proofs.ItemRows.{items-last, items_depth-last, items_depth-below}
use Rattle.ck_bodies.proofs.Rows.{list_all-last, block-fits, block-below}
use Rattle.ck_bodies.proofs.walk.BodyWalk.+statements.Goals as goal

-- items ---------------------------------------------------------------------------------------------------------------

pub items-item-requires : goal.items-item-requires
items-item-requires t c =
    let test = item_fits (numbers (tables c.args.self.now)) in
    let rest = c.in-Some.last.1.now in
    let x = c.in-Some.last.0.now in
    let e : c.rest.rest.now ≡ rest ++ (x ∷ []) = c.in-Some.ensures.cases.0 in
    let known : test x ≡ true =
    (list_all-last test rest x (subst (λ xs. list_all test xs ≡ true) e c.rest.invariant.known)).1 in
    let deep = subst (λ xs. items_depth xs ≤ items_depth c.args.items.now) e c.rest.invariant.depth in
    let last = items_depth-last rest x in
    let smaller : item_depth x + 1 < items_depth c.args.items.now + 2 = omega arith in
    search rules

pub items-rest-preserved : goal.items-rest-preserved
items-rest-preserved t c =
    let w = c.args.self.now in
    let l = tables w in
    let j = targets l c.args.jumps.now in
    let π = c.args.path.now in
    let rest = c.in-Some.last.1.now in
    let x = c.in-Some.last.0.now in
    let b = body_readings l in
    let f = statement l in
    let d = made w c.rest.drawing in
    let test = item_fits (numbers l) in
    let e : c.rest.rest.now ≡ rest ++ (x ∷ []) = c.in-Some.ensures.cases.0 in
    let deep = subst (λ xs. items_depth xs ≤ items_depth c.args.items.now) e c.rest.invariant.depth in
    let last = items_depth-last rest x in
    record {
      known = (list_all-last test rest x (subst (λ xs. list_all test xs ≡ true) e c.rest.invariant.known)).0;
      depth = omega arith;
      is =
          c.rest.invariant.is
          ∙ ap (λ is. draw_items j π 0 (items_of b f is) d) e
          ∙ items-last b f j π (length rest) 0 rest x d (omega arith)
          ∙ ap (draw_items j π 0 (items_of b f rest)) (sym c.in_ok-item.ensures);
    }

pub statement-block-requires : goal.statement-block-requires
statement-block-requires t c =
    let n = numbers (tables c.args.self.now) in
    let i = c.args.id.0 in
    let row = c.in-Block.items.items in
    let node = nodes.Block c.in-Block.first c.in-Block.items in
    let same = sym c.as_slice-row.ensures.value in
    let known : list_all (item_fits n) c.as_slice-row.result.now ≡ true =
    subst (λ xs. list_all (item_fits n) xs ≡ true) same
    (block-fits n node (subst (λ s. statement_node_fits n s ≡ true) c.in-Block.is c.statement-node.ensures.fits)) in
    let deep : items_depth row ≤ 16 * i =
    items_depth-below i row
    (block-below i node (subst (λ s. reads_below i s ≡ true) c.in-Block.is c.statement-node.ensures.meaning.below)) in
    let here : items_depth c.as_slice-row.result.now ≤ 16 * i = subst (λ xs. items_depth xs ≤ 16 * i) same deep in
    let smaller : items_depth c.as_slice-row.result.now + 3 < 16 * i + 15 = omega arith in
    search rules
