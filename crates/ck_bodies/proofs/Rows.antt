-- Rows: what holds of the last one, and what a row stands for.
use Rattle.std.proofs.Common.{◌≡◌, ◌<◌, ◌≤◌, ◌+◌, ℕ, ℤ, pos, zero, suc, Bool, true, false, List, [], ◌∷◌, ◌++◌}
use Rattle.std.proofs.Common.{length, drop, get_or, refl, sym, ap, subst, ◌∙◌, arith}
use Rattle.std.proofs.lemmas.List.{at_drop_more}
use Rattle.std.specs.Prelude.{◌&&◌, nat_lt, slice_get, Some}
use Rattle.std.specs.List.{list_all}
use Rattle.ck_tables.specs.InitTable.{item_below, row_below}
use Rattle.ck_tables.specs.Numbers.{Numbers, part_fits, entry_fits, item_fits, declarator_fits, declaration_row_fits}
use Rattle.ck_tables.specs.Numbers.{statement_node_fits, body_fits}
use Rattle.ck_tables.specs.Program.{read}
use Rattle.ck_tables.specs.Rows.{IsRow}
use Rattle.ck_tables.specs.StmtTable.{items_below, reads_below}
use Rattle.ck_tables.specs.declared.inits.InitItem.{InitItem}
use Rattle.ck_tables.specs.declared.inits.InitItem.TheVariants as elements
use Rattle.ck_tables.specs.declared.program.Body.{Body}
use Rattle.ck_tables.specs.declared.stmts.Declaration.{Declaration}
use Rattle.ck_tables.specs.declared.stmts.Item.{Item}
use Rattle.ck_tables.specs.declared.stmts.StmtNode.{StmtNode}
use Rattle.ck_tables.specs.declared.stmts.StmtNode.TheVariants as nodes
use Rattle.ck_bodies.specs.Walks.{element_initialiser}

both : (a b : Bool) → a && b ≡ true → (a ≡ true) × (b ≡ true)
both true true h = (refl, refl)
both true false h = absurd (cc)
both false b h = absurd (cc)

pub list_all-last : {X : Type 0} (test : X → Bool) (xs : List X) (x : X) → list_all test (xs ++ (x ∷ [])) ≡ true →
    (list_all test xs ≡ true) × (test x ≡ true)
list_all-last test [] x h = (refl, (both (test x) true h).0)
list_all-last test (y ∷ xs) x h =
    let hs = both (test y) (list_all test (xs ++ (x ∷ []))) h in
    let later = list_all-last test xs x hs.1 in
    (grind (arith, hs.0, later.0), later.1)

pub item_below-is : (n : ℕ) (i : InitItem) → item_below n i ≡ true → (element_initialiser i).0 < n
item_below-is n (elements.Plain x) h = grind (arith, h)
item_below-is n (elements.Designated x designation) h = grind (arith, h)

pub row_below-last : (n : ℕ) (is : List InitItem) (i : InitItem) → row_below n (is ++ (i ∷ [])) ≡ true →
    (row_below n is ≡ true) × ((element_initialiser i).0 < n)
row_below-last n [] i h = (refl, item_below-is n i ((both (item_below n i) true h).0))
row_below-last n (j ∷ is) i h =
    let hs = both (item_below n j) (row_below n (is ++ (i ∷ []))) h in
    let later = row_below-last n is i hs.1 in
    (grind (arith, hs.0, later.0), later.1)

pub read-row : {X Y : Type 0} (none : Y) (plain : X → Y) (xs : List X) (i : ℕ) (x : X) → IsRow xs i x →
    read none plain xs i ≡ plain x
read-row none plain [] i x row = let h = row.within in absurd (omega arith)
read-row none plain (y ∷ ys) zero x row = ap plain (row.is y)
read-row none plain (y ∷ ys) (suc i) x row =
    let h = row.within in
    let earlier : IsRow ys i x = record { within = omega arith; is = row.is } in
    read-row none plain ys i x earlier

pub declarators-fit : (n : Numbers) (d : Declaration) → declaration_row_fits n d ≡ true →
    list_all (declarator_fits n) d.declared.items ≡ true
unfolding declaration_row_fits
declarators-fit n d h =
    (both (list_all (part_fits n) d.written.items) (list_all (declarator_fits n) d.declared.items) h).1

pub drop-next : {X : Type 0} (xs : List X) (i : ℕ) (x : X) → i < length xs → x ≡ get_or xs i x →
    drop i xs ≡ x ∷ drop (i + 1) xs
drop-next xs i x h same = at_drop_more (λ ys. ys) xs i x h ∙ ap (λ y. y ∷ drop (i + 1) xs) (sym same)

pub get-next : {X : Type 0} (xs : List X) (i : ℕ) (x : X) → i < length xs → x ≡ get_or xs i x →
    slice_get xs i ≡ Some x
get-next [] i x h same = absurd (omega arith)
get-next (y ∷ xs) zero x h same = ap (λ z. Some z) (sym same)
get-next (y ∷ xs) (suc i) x h same = get-next xs i x (omega arith) same

pub fits-at : {X : Type 0} (test : X → Bool) (xs : List X) (i : ℕ) (x : X) → list_all test xs ≡ true →
    i < length xs → x ≡ get_or xs i x → test x ≡ true
fits-at test [] i x all h same = absurd (omega arith)
fits-at test (y ∷ xs) zero x all h same =
    subst (λ z. test z ≡ true) (sym same) (both (test y) (list_all test xs) all).0
fits-at test (y ∷ xs) (suc i) x all h same =
    fits-at test xs i x (both (test y) (list_all test xs) all).1 (omega arith) same

pub read-within : (xs : List ℤ) (i : ℕ) (d : ℤ) → i < length xs → read (pos 0) (λ v. v) xs i ≡ get_or xs i d
read-within [] i d h = absurd (omega arith)
read-within (x ∷ xs) zero d h = refl
read-within (x ∷ xs) (suc i) d h = read-within xs i d (omega arith)

pub read-past : (xs : List ℤ) (i : ℕ) → length xs ≤ i → read (pos 0) (λ v. v) xs i ≡ pos 0
read-past [] i h = refl
read-past (x ∷ xs) zero h = absurd (omega arith)
read-past (x ∷ xs) (suc i) h = read-past xs i (omega arith)

-- the items of a block
abbrev pub block_items : StmtNode → List Item
block_items (nodes.Block first row) = row.items
block_items _ = []

pub block-fits : (n : Numbers) (s : StmtNode) → statement_node_fits n s ≡ true →
    list_all (item_fits n) (block_items s) ≡ true
unfolding statement_node_fits
block-fits n (nodes.Block first row) h = h
block-fits n _ h = refl

pub block-below : (limit : ℕ) (s : StmtNode) → reads_below limit s ≡ true → items_below limit (block_items s) ≡ true
block-below limit (nodes.Block first row) h = h
block-below limit _ h = refl

pub body-items-fit : (n : Numbers) (b : Body) → body_fits n b ≡ true → list_all (item_fits n) b.items.items ≡ true
unfolding body_fits
body-items-fit n b h =
    let rest = list_all (item_fits n) b.items.items in
    let parameters = list_all (part_fits n) b.parameters.items in
    let written = list_all (part_fits n) b.written.items in
    (both parameters rest
    (both written (parameters && rest)
    (both (entry_fits n b.declared.entry) (written && (parameters && rest)) h).1).1).1
