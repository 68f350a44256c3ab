-- What a declaration evaluates, and in which order (C99 6.7.8): its declarators from left to right, and the
-- initialisers in braces likewise.
use Rattle.std.specs.Prelude.{ℕ, suc, Bool, true, false, ◌||◌, Option, Some, None, if◌then◌else◌}
use Rattle.std.specs.Option.{is_some}
use Rattle.ck_prog.specs.Declarations.{Meaning, Variable}
use Rattle.ck_prog.specs.Paths as part
use Rattle.ck_prog.specs.Paths.{Path, below}
use Rattle.ck_prog.specs.TypedBodies as bodies
use Rattle.ck_prog.specs.TypedBodies.{InitialiserFacts, DeclaredFacts, TypedInitialiser, TypedInitialisers}
use Rattle.ck_prog.specs.TypedBodies.{TypedDeclarators, TypedDeclaration}
use Rattle.ck_prog.specs.Typing.{is_static}
use Rattle.ck_points.specs.Evaluations.{Evaluation, Nothing, Does, Then, Clear, Initialise, Forget, evaluation}

-- 5.1.2, 6.7.8: an object of static storage duration is initialised before the program starts
abbrev pub when_reached : InitialiserFacts → Evaluation → Evaluation
when_reached f e = if f.static then Nothing else e

abbrev mutual
  pub initialising : Path → TypedInitialiser → Evaluation
  initialising π (bodies.Value f x) = when_reached f (Then (evaluation π x) (Does (Initialise π)))
  initialising π (bodies.Braces f is) = when_reached f (Then (Does (Clear π)) (initialising_from π 0 is))

  -- from the element of this number on
  pub initialising_from : Path → ℕ → TypedInitialisers → Evaluation
  initialising_from π k bodies.NoInitialisers = Nothing
  initialising_from π k (bodies.Initialiser ds i rest) =
      Then (initialising (below π (part.ElementOf k)) i) (initialising_from π (suc k) rest)

-- 6.2.4: a variable of a block that is neither static nor extern
abbrev pub is_automatic : Meaning → Bool
is_automatic (Variable t l d storage) = if is_static storage then false else true
is_automatic _ = false

abbrev pub declared : Path → DeclaredFacts → Option TypedInitialiser → Evaluation
declared π f None = if is_automatic f.entry.meaning then Does (Forget π) else Nothing
declared π f (Some i) = initialising π i

-- from the declarator of this number on
abbrev pub declaring : Path → ℕ → TypedDeclarators → Evaluation
declaring π k bodies.NoDeclared = Nothing
declaring π k (bodies.Declared written f i rest) =
    Then (declared (below π (part.InitialiserOf k)) f i) (declaring π (suc k) rest)

abbrev pub has_initialiser : TypedDeclarators → Bool
has_initialiser bodies.NoDeclared = false
has_initialiser (bodies.Declared written f i rest) = is_some i || has_initialiser rest
