-- One more of the rows of tables, from their backs.
use Rattle.std.proofs.Common.{◌≡◌, ◌<◌, ◌≤◌, ◌+◌, ℕ, zero, suc, Bool, true, false, List, [], ◌∷◌, length}
use Rattle.std.proofs.Common.{refl, sym, ap, subst, ◌∙◌, arith}
use Rattle.std.specs.Prelude.{◌||◌, ◌&&◌, nat_lt, if◌then◌else◌}
use Rattle.ck_points.specs.Functions.{status_in}
use Rattle.ck_prog.specs.TypedBodies.{TypedStatement, TypedInitialiser, TypedItems, TypedInitialisers}
use Rattle.ck_prog.specs.TypedBodies.{TypedDeclaration}
use Rattle.ck_tables.specs.InitTable as inits
use Rattle.ck_tables.specs.Program.{read}
use Rattle.ck_tables.specs.Readings.{BodyReadings}
use Rattle.ck_tables.specs.Rows.{IsRow}
use Rattle.ck_tables.specs.StmtTable as stmts
use Rattle.ck_tables.specs.StmtTable.{items_below, item_below}
use Rattle.ck_tables.specs.declared.inits.InitItem.{InitItem}
use Rattle.ck_tables.specs.declared.inits.InitItem.TheVariants as elements
use Rattle.ck_tables.specs.declared.stmts.Item.{Item}
use Rattle.ck_tables.specs.declared.stmts.Item.TheVariants as items
use Rattle.ck_tables.specs.declared.stmts.StmtId.{StmtId}
use Rattle.ck_counts.specs.BodyPoints.{initialiser_points, initialisers_points, items_points}
use Rattle.ck_counts.specs.Rows.{element_number, item_points, item_status}
use Rattle.ck_counts.specs.Weights.{Weighs, IsCounted}
use Rattle.ck_counts.specs.declared.body_counts.Counted.{Counted}
use Rattle.ck_counts.proofs.Lists.{first, second}

-- a row of a list that is read
pub read-row : {X Y : Type 0} (none : Y) (plain : X → Y) (xs : List X) (i : ℕ) (x : X) → IsRow xs i x →
    read none plain xs i ≡ plain x
read-row none plain [] i x row = let h = row.within in absurd (omega arith)
read-row none plain (y ∷ ys) zero x row = ap plain (row.is y)
read-row none plain (y ∷ ys) (suc i) x row =
    let h = row.within in
    let earlier : IsRow ys i x = record { within = omega arith; is = row.is } in
    read-row none plain ys i x earlier

-- initialisers -------------------------------------------------------------------------------------------------------

element-points : (b : BodyReadings) (f : ℕ → TypedInitialiser) (x : InitItem) (rest : TypedInitialisers) →
    initialisers_points (inits.item_before b f x rest)
    ≡ initialiser_points (f (element_number x)) + initialisers_points rest
element-points b f (elements.Plain initialiser) rest = refl
element-points b f (elements.Designated initialiser designation) rest = refl

pub elements-more : (b : BodyReadings) (f : ℕ → TypedInitialiser) (w : ℕ) (x : InitItem) (xs ys : List InitItem) →
    ys ≡ x ∷ xs → Weighs w (initialiser_points (f (element_number x)) + initialisers_points (inits.row_of b f xs)) →
    Weighs w (initialisers_points (inits.row_of b f ys))
elements-more b f w x xs ys e is =
    subst (Weighs w)
    (sym (ap (λ zs. initialisers_points (inits.row_of b f zs)) e ∙ element-points b f x (inits.row_of b f xs))) is

-- items of blocks ----------------------------------------------------------------------------------------------------

item-points : (b : BodyReadings) (f : ℕ → TypedStatement) (x : Item) (rest : TypedItems) →
    items_points (stmts.item_before b f x rest) ≡ item_points b f x + items_points rest
item-points b f (items.Declaration d) rest = refl
item-points b f (items.Statement s) rest = refl

item-status : (b : BodyReadings) (f : ℕ → TypedStatement) (x : Item) (rest : TypedItems) →
    status_in (stmts.item_before b f x rest) ≡ (item_status b f x || status_in rest)
item-status b f (items.Declaration d) rest = refl
item-status b f (items.Statement s) rest = refl

pub items-more : (b : BodyReadings) (f : ℕ → TypedStatement) (c : Counted) (x : Item) (xs ys : List Item) →
    ys ≡ x ∷ xs →
    IsCounted c (item_points b f x + items_points (stmts.items_of b f xs))
    (item_status b f x || status_in (stmts.items_of b f xs)) →
    IsCounted c (items_points (stmts.items_of b f ys)) (status_in (stmts.items_of b f ys))
items-more b f c x xs ys e is =
    let points = ap (λ zs. items_points (stmts.items_of b f zs)) e ∙ item-points b f x (stmts.items_of b f xs) in
    let status = ap (λ zs. status_in (stmts.items_of b f zs)) e ∙ item-status b f x (stmts.items_of b f xs) in
    record {
      points_are = subst (Weighs c.points.0) (sym points) is.points_are;
      status_is = is.status_is ∙ sym status;
    }

-- items that name smaller numbers than one name smaller numbers than a greater one -----------------------------------

item_below-more : (n m : ℕ) (x : Item) → n ≤ m → item_below n x ≡ true → item_below m x ≡ true
item_below-more n m (items.Declaration d) most h = refl
item_below-more n m (items.Statement s) most h = let less : s.0 < n = grind (arith, h) in grind arith

both : (a b : Bool) → a ≡ true → b ≡ true → (a && b) ≡ true
both true b first second = second
both false b first second = first

pub items_below-more : (n m : ℕ) (xs : List Item) → n ≤ m → items_below n xs ≡ true → items_below m xs ≡ true
items_below-more n m [] most h = refl
items_below-more n m (x ∷ xs) most h =
    both (item_below m x) (items_below m xs)
    (item_below-more n m x most (first (item_below n x) (items_below n xs) h))
    (items_below-more n m xs most (second (item_below n x) (items_below n xs) h))

pub items_below-next : (n m : ℕ) (x : Item) (xs ys : List Item) → ys ≡ x ∷ xs → n ≤ m → item_below m x ≡ true →
    items_below n xs ≡ true → items_below m ys ≡ true
items_below-next n m x xs ys e most here h =
    ap (items_below m) e ∙ both (item_below m x) (items_below m xs) here (items_below-more n m xs most h)

-- the own points of a declaration
pub own-points : (b d : Bool) (own : ℕ) → b ≡ d → own ≡ (if b then 2 else 0) → own ≡ (if d then 2 else 0)
own-points b d own same is = is ∙ ap (λ (t : Bool). if t then 2 else 0) same
