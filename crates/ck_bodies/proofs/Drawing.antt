-- Elements and declarators, drawn from the last to the first.
use Rattle.std.proofs.Common.{◌≡◌, ◌+◌, ℕ, suc, Bool, true, false, List, [], ◌∷◌, ◌++◌, length, refl, sym, ap}
use Rattle.std.proofs.Common.{◌∙◌, arith}
use Rattle.std.specs.Prelude.{Option, Some, None, if◌then◌else◌}
use Rattle.ck_passages.specs.Drawing.{draw}
use Rattle.ck_passages.specs.Points.{Drawn}
use Rattle.ck_points.specs.Evaluations.{Evaluation, Deed, Does, Nothing}
use Rattle.ck_points.specs.Initialising.{initialising, initialising_from, declared, declaring, has_initialiser}
use Rattle.ck_points.specs.Initialising.{is_automatic}
use Rattle.ck_prog.specs.Paths as part
use Rattle.ck_prog.specs.Paths.{Path, below}
use Rattle.ck_prog.specs.TypedBodies as bodies
use Rattle.ck_prog.specs.TypedBodies.{TypedInitialiser, TypedDeclarators, DeclaredFacts}
use Rattle.ck_tables.specs.InitTable.{row_of}
use Rattle.ck_tables.specs.Readings.{BodyReadings}
use Rattle.ck_tables.specs.StmtTable.{declarators_of, plain_declared_facts, plain_initialiser}
use Rattle.ck_tables.specs.declared.inits.InitItem.{InitItem}
use Rattle.ck_tables.specs.declared.inits.InitItem.TheVariants as elements
use Rattle.ck_tables.specs.declared.stmts.Declared.{Declared}
use Rattle.ck_bodies.specs.Walks.{element_initialiser}

module _ (b : BodyReadings) (f : ℕ → TypedInitialiser) (π : Path) (m : ℕ) where
  one : (k : ℕ) (i : InitItem) (d : Drawn) → m ≡ k →
      draw [] (initialising_from π k (row_of b f (i ∷ []))) d
      ≡ draw [] (initialising (π ++ (m ∷ [])) (f (element_initialiser i).0)) d
  one k (elements.Plain x) d e = ap (λ j. draw [] (initialising (π ++ (j ∷ [])) (f x.0)) d) (sym e)
  one k (elements.Designated x ds) d e = ap (λ j. draw [] (initialising (π ++ (j ∷ [])) (f x.0)) d) (sym e)

  -- the last element is drawn first
  pub elements-last : (k : ℕ) (is : List InitItem) (i : InitItem) (d : Drawn) → m ≡ k + length is →
      draw [] (initialising_from π k (row_of b f (is ++ (i ∷ [])))) d
      ≡ draw [] (initialising_from π k (row_of b f is))
      (draw [] (initialising (π ++ (m ∷ [])) (f (element_initialiser i).0)) d)
  elements-last k [] i d e = one k i d (omega arith)
  elements-last k (elements.Plain x ∷ is) i d e =
      ap (draw [] (initialising (below π (part.ElementOf k)) (f x.0))) (elements-last (suc k) is i d (omega arith))
  elements-last k (elements.Designated x ds ∷ is) i d e =
      ap (draw [] (initialising (below π (part.ElementOf k)) (f x.0))) (elements-last (suc k) is i d (omega arith))

-- declarators ---------------------------------------------------------------------------------------------------------

module _ (b : BodyReadings) (π : Path) (m : ℕ) where
  abbrev drawn_declarator : ℕ → Declared → Drawn → Drawn
  drawn_declarator k x d =
      draw []
      (declared (π ++ (k ∷ [])) (plain_declared_facts b.readings x.facts) (plain_initialiser b x.initialiser)) d

  -- the last declarator is drawn first
  pub declarators-last : (k : ℕ) (ds : List Declared) (x : Declared) (d : Drawn) → m ≡ k + length ds →
      draw [] (declaring π k (declarators_of b (ds ++ (x ∷ [])))) d
      ≡ draw [] (declaring π k (declarators_of b ds)) (drawn_declarator m x d)
  declarators-last k [] x d e = let same : k ≡ m = omega arith in ap (λ j. drawn_declarator j x d) same
  declarators-last k (y ∷ ds) x d e =
      ap (drawn_declarator k y) (declarators-last (suc k) ds x d (omega arith))

skipped : (b : Bool) (deed : Deed) (d : Drawn) → draw [] (if b then Does deed else Nothing) d ≡ d
skipped true deed d = refl
skipped false deed d = refl

-- a declarator without an initialiser has no points
pub not_initialised : (π : Path) (f : DeclaredFacts) (d : Drawn) → draw [] (declared π f None) d ≡ d
not_initialised π f d = skipped (is_automatic f.entry.meaning) _ d

pub declaring-none : (π : Path) (k : ℕ) (ds : TypedDeclarators) (d : Drawn) → has_initialiser ds ≡ false →
    draw [] (declaring π k ds) d ≡ d
declaring-none π k bodies.NoDeclared d h = refl
declaring-none π k (bodies.Declared written f None rest) d h =
    not_initialised (below π (part.InitialiserOf k)) f (draw [] (declaring π (suc k) rest) d)
    ∙ declaring-none π (suc k) rest d h
declaring-none π k (bodies.Declared written f (Some i) rest) d h = absurd (cc)
