use Rattle.std.proofs.Common.{rules, ◌≡◌, ◌<◌, ◌≤◌, ◌+◌, ◌*◌, true, OnOk, ap, subst, sym, ◌∙◌, arith}
use Rattle.std.specs.List.{list_all}
use Rattle.ck_tables.specs.Numbers.{numbers, item_fits, statement_node_fits}
use Rattle.ck_tables.specs.Program.{body_readings}
use Rattle.ck_tables.specs.StmtTable.{items_of, make, reads_below}
use Rattle.ck_tables.specs.declared.stmts.StmtNode.TheVariants as nodes
use Rattle.ck_bodies.specs.Noting.{notes, notes_from, AreNoted}
use Rattle.ck_bodies.specs.Walks.{tables, statement, items_depth}
use Rattle.ck_bodies.proofs.ItemRows.{items_depth-below}
use Rattle.ck_bodies.proofs.Rows.{block-fits, block-below}
use Rattle.ck_bodies.proofs.walk.BodyWalk.+noting.Goals as goal

pub note_statement-note_items-requires : goal.note_statement-note_items-requires
note_statement-note_items-requires t c =
    let n = numbers (tables c.args.self.now) in
    let i = c.args.id.0 in
    let row = c.in-Block.items.items in
    let node = nodes.Block c.in-Block.first c.in-Block.items in
    let same = sym c.as_slice-row.ensures.value in
    let known : list_all (item_fits n) c.as_slice-row.result.now ≡ true =
    subst (λ xs. list_all (item_fits n) xs ≡ true) same
    (block-fits n node (subst (λ s. statement_node_fits n s ≡ true) c.in-Block.is c.statement-node.ensures.fits)) in
    let deep : items_depth row ≤ 16 * i =
    items_depth-below i row
    (block-below i node (subst (λ s. reads_below i s ≡ true) c.in-Block.is c.statement-node.ensures.meaning.below)) in
    let here : items_depth c.as_slice-row.result.now ≤ 16 * i = subst (λ xs. items_depth xs ≤ 16 * i) same deep in
    let smaller : items_depth c.as_slice-row.result.now + 2 < 16 * i + 15 = omega arith in
    search rules

pub note_statement-returns-in-Block-clause-notes : goal.note_statement-returns-in-Block-clause-notes
note_statement-returns-in-Block-clause-notes t c =
    let l = tables c.args.self.now in
    let b = body_readings l in
    let f = statement l in
    let all = c.args.all in
    let π = c.args.path.now in
    let e = c.statement-node.ensures.meaning.tree b ∙ ap (make b f) c.in-Block.is in
    let same =
    ap (λ xs. notes_from all π 0 (items_of b f xs)) c.as_slice-row.ensures.value ∙ sym (ap (notes all π) e) in
    subst (λ x. OnOk c.note_items.result (AreNoted l x c.args.notes.now.items c.note_items.new.notes.items)) same
    c.note_items.ensures.notes
