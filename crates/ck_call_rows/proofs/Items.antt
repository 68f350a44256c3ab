-- Items of blocks: how deep a walk over them goes, and which fit.
use Rattle.std.proofs.Common.{◌≡◌, ◌<◌, ◌≤◌, ◌+◌, ◌*◌, ℕ, zero, suc, Bool, true, false, List, [], ◌∷◌, length, drop}
use Rattle.std.proofs.Common.{refl, sym, subst, arith}
use Rattle.std.specs.List.{list_all}
use Rattle.std.specs.Prelude.{◌&&◌, nat_lt, max}
use Rattle.ck_call_rows.specs.Walks.{item_depth, items_depth}
use Rattle.ck_tables.specs.Numbers.{Numbers, part_fits, entry_fits, item_fits, body_fits}
use Rattle.ck_tables.specs.Numbers.{declarator_fits, declaration_row_fits, statement_node_fits}
use Rattle.ck_tables.specs.StmtTable.{item_below, items_below, reads_below}
use Rattle.ck_tables.specs.declared.program.Body.{Body}
use Rattle.ck_tables.specs.declared.stmts.Declaration.{Declaration}
use Rattle.ck_tables.specs.declared.stmts.Item.{Item}
use Rattle.ck_tables.specs.declared.stmts.Item.TheVariants as items
use Rattle.ck_tables.specs.declared.stmts.StmtNode.{StmtNode}
use Rattle.ck_tables.specs.declared.stmts.StmtNode.TheVariants as nodes

both : (a b : Bool) → a && b ≡ true → (a ≡ true) × (b ≡ true)
both true true h = (refl, refl)
both true false h = absurd (cc)
both false b h = absurd (cc)

item_depth-below : (n : ℕ) (i : Item) → item_below n i ≡ true → item_depth i ≤ 4 * n
item_depth-below n (items.Declaration d) h = omega arith
item_depth-below n (items.Statement s) h = let less : s.0 < n = grind (arith, h) in omega arith

pub items_depth-below : (n : ℕ) (is : List Item) → items_below n is ≡ true → items_depth is ≤ 4 * n
items_depth-below n [] h = omega arith
items_depth-below n (i ∷ is) h =
    let hs = both (item_below n i) (items_below n is) h in
    let first = item_depth-below n i hs.0 in
    let later = items_depth-below n is hs.1 in
    omega arith

-- the items of a block
abbrev pub block_items : StmtNode → List Item
block_items (nodes.Block first row) = row.items
block_items _ = []

pub block-fits : (n : Numbers) (s : StmtNode) → statement_node_fits n s ≡ true
    → list_all (item_fits n) (block_items s) ≡ true
unfolding statement_node_fits
block-fits n (nodes.Block first row) h = h
block-fits n _ h = refl

pub block-below : (limit : ℕ) (s : StmtNode) → reads_below limit s ≡ true → items_below limit (block_items s) ≡ true
block-below limit (nodes.Block first row) h = h
block-below limit _ h = refl

pub declarators-fit : (n : Numbers) (d : Declaration) → declaration_row_fits n d ≡ true
    → list_all (declarator_fits n) d.declared.items ≡ true
unfolding declaration_row_fits
declarators-fit n d h =
    (both (list_all (part_fits n) d.written.items) (list_all (declarator_fits n) d.declared.items) h).1

pub body-items-fit : (n : Numbers) (b : Body) → body_fits n b ≡ true → list_all (item_fits n) b.items.items ≡ true
unfolding body_fits
body-items-fit n b h =
    let rest = list_all (item_fits n) b.items.items in
    let parameters = list_all (part_fits n) b.parameters.items in
    let written = list_all (part_fits n) b.written.items in
    (both parameters rest
    (both written (parameters && rest)
    (both (entry_fits n b.declared.entry) (written && (parameters && rest)) h).1).1).1

-- those after one go no deeper
pub items_depth-next : (is : List Item) (k : ℕ) → k < length is
    → items_depth (drop (k + 1) is) ≤ items_depth (drop k is)
items_depth-next [] k low = absurd (omega arith)
items_depth-next (i ∷ is) zero low = omega arith
items_depth-next (i ∷ is) (suc k) low =
    let number : suc k + 1 ≡ suc (k + 1) = omega arith in
    let later : items_depth (drop (k + 1) is) ≤ items_depth (drop k is) = items_depth-next is k (omega arith) in
    subst (λ j. items_depth (drop j (i ∷ is)) ≤ items_depth (drop k is)) (sym number) later
