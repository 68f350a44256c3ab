-- Rows of items: the last is drawn first, and the first is noted first.
use Rattle.std.proofs.Common.{◌≡◌, ◌<◌, ◌≤◌, ◌+◌, ◌*◌, ℕ, suc, Bool, true, false, List, [], ◌∷◌, ◌++◌}
use Rattle.std.proofs.Common.{length, map, refl, sym, ap, ◌∙◌, append-nil, arith}
use Rattle.std.specs.Prelude.{◌&&◌, ◌||◌, nat_lt, max, Option, Some, None}
use Rattle.std.specs.Option.{is_some}
use Rattle.std.specs.List.{list_all}
use Rattle.ck_passages.specs.Points.{Drawn}
use Rattle.ck_points.specs.Functions.{status_in_declaration, status_declared}
use Rattle.ck_points.specs.Initialising.{has_initialiser}
use Rattle.ck_prog.specs.Paths as part
use Rattle.ck_prog.specs.Paths.{Path, below}
use Rattle.ck_prog.specs.TypedBodies.{TypedStatement}
use Rattle.ck_tables.specs.Readings.{BodyReadings}
use Rattle.ck_tables.specs.StmtTable.{items_of, item_below, items_below, declarators_of, plain_initialiser}
use Rattle.ck_tables.specs.declared.inits.InitId.{InitId}
use Rattle.ck_tables.specs.declared.stmts.Declared.{Declared}
use Rattle.ck_tables.specs.declared.stmts.Item.{Item}
use Rattle.ck_tables.specs.declared.stmts.Item.TheVariants as items
use Rattle.ck_bodies.specs.DrawnStatements.{Targets, draw_declaration, draw_statement, draw_items}
use Rattle.ck_bodies.specs.Noting.{PlainNote, status_notes, notes, notes_from}
use Rattle.ck_bodies.specs.Walks.{part_depth, item_depth, items_depth}

module _ (b : BodyReadings) (f : ℕ → TypedStatement) (j : Targets) (π : Path) (m : ℕ) where
  pub items-last : (k : ℕ) (is : List Item) (i : Item) (d : Drawn) → m ≡ k + length is →
      draw_items j π k (items_of b f (is ++ (i ∷ []))) d
      ≡ draw_items j π k (items_of b f is) (draw_items j π m (items_of b f (i ∷ [])) d)
  items-last k [] i d e =
      let same : k ≡ m = omega arith in ap (λ n. draw_items j π n (items_of b f (i ∷ [])) d) same
  items-last k (items.Declaration s ∷ is) i d e =
      ap (draw_declaration (below π (part.Item k)) (b.declaration_of s.0)) (items-last (suc k) is i d (omega arith))
  items-last k (items.Statement s ∷ is) i d e =
      ap (draw_statement j (below π (part.Item k)) (f s.0)) (items-last (suc k) is i d (omega arith))

module _ (b : BodyReadings) (f : ℕ → TypedStatement) (all : Bool) (π : Path) where
  pub notes-first : (k : ℕ) (i : Item) (is : List Item) →
      notes_from all π k (items_of b f (i ∷ is))
      ≡ notes_from all π k (items_of b f (i ∷ [])) ++ notes_from all π (suc k) (items_of b f is)
  notes-first k (items.Declaration s) is =
      ap (λ xs. xs ++ notes_from all π (suc k) (items_of b f is))
      (sym (append-nil (status_notes (status_in_declaration (b.declaration_of s.0)) (below π (part.Item k)))))
  notes-first k (items.Statement s) is =
      ap (λ xs. xs ++ notes_from all π (suc k) (items_of b f is))
      (sym (append-nil (notes all (below π (part.Item k)) (f s.0))))

-- declarators ---------------------------------------------------------------------------------------------------------

initialised : (b : BodyReadings) (i : Option InitId) → is_some (plain_initialiser b i) ≡ is_some i
initialised b None = refl
initialised b (Some i) = refl

pub has_initialiser-first : (b : BodyReadings) (x : Declared) (ds : List Declared) →
    has_initialiser (declarators_of b (x ∷ ds)) ≡ is_some x.initialiser || has_initialiser (declarators_of b ds)
has_initialiser-first b x ds = ap (λ t. t || has_initialiser (declarators_of b ds)) (initialised b x.initialiser)

pub either-true : (a b : Bool) → a ≡ true → a || b ≡ true
either-true true b h = refl
either-true false b h = absurd (cc)

pub either-false : (a b : Bool) → a ≡ false → a || b ≡ b
either-false false b h = refl
either-false true b h = absurd (cc)

-- depth ---------------------------------------------------------------------------------------------------------------

pub items_depth-last : (is : List Item) (i : Item) → items_depth (is ++ (i ∷ [])) ≡ max (items_depth is) (item_depth i)
items_depth-last [] i = omega arith
items_depth-last (x ∷ is) i = let h = items_depth-last is i in omega arith

both : (a b : Bool) → a && b ≡ true → (a ≡ true) × (b ≡ true)
both true true h = (refl, refl)
both true false h = absurd (cc)
both false b h = absurd (cc)

item_depth-below : (n : ℕ) (i : Item) → item_below n i ≡ true → item_depth i ≤ 16 * n
item_depth-below n (items.Declaration d) h = omega arith
item_depth-below n (items.Statement s) h = let less : s.0 < n = grind (arith, h) in omega arith

pub items_depth-below : (n : ℕ) (is : List Item) → items_below n is ≡ true → items_depth is ≤ 16 * n
items_depth-below n [] h = omega arith
items_depth-below n (i ∷ is) h =
    let hs = both (item_below n i) (items_below n is) h in
    let first = item_depth-below n i hs.0 in
    let later = items_depth-below n is hs.1 in
    omega arith
