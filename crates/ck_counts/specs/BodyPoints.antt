-- How many points initialisers, declarations, statements and functions have (C99 6.7, 6.8, 6.9.1): neither paths nor
-- jumps bear on it.
use Rattle.std.specs.Prelude.{ℕ, ◌+◌, Option, Some, None, if◌then◌else◌}
use Rattle.ck_prog.specs.TypedBodies as bodies
use Rattle.ck_prog.specs.TypedBodies.{InitialiserFacts, TypedInitialiser, TypedInitialisers, TypedDeclarators}
use Rattle.ck_prog.specs.TypedBodies.{TypedDeclaration, TypedStart, TypedStatement, TypedItems, TypedFunction}
use Rattle.ck_prog.specs.TypedTrees.{Typed}
use Rattle.ck_points.specs.Functions.{status_in}
use Rattle.ck_points.specs.Initialising.{has_initialiser}
use Rattle.ck_counts.specs.Extents.{extent_of}

abbrev pub expression_points : Typed → ℕ
expression_points x = (extent_of x).points

-- initialisers and declarations --------------------------------------------------------------------------------------

-- 5.1.2, 6.7.8: an object of static storage duration is initialised before the program starts
abbrev pub when_reached : InitialiserFacts → ℕ → ℕ
when_reached f points = if f.static then 0 else points

abbrev mutual
  pub initialiser_points : TypedInitialiser → ℕ
  initialiser_points (bodies.Value f x) = when_reached f (expression_points x)
  initialiser_points (bodies.Braces f is) = when_reached f (initialisers_points is)

  pub initialisers_points : TypedInitialisers → ℕ
  initialisers_points bodies.NoInitialisers = 0
  initialisers_points (bodies.Initialiser ds i rest) = initialiser_points i + initialisers_points rest

abbrev pub declared_points : Option TypedInitialiser → ℕ
declared_points None = 0
declared_points (Some i) = initialiser_points i

abbrev pub declarators_points : TypedDeclarators → ℕ
declarators_points bodies.NoDeclared = 0
declarators_points (bodies.Declared written f i rest) = declared_points i + declarators_points rest

-- a declaration has its own two points where some declarator has an initialiser
abbrev pub declaration_points : TypedDeclaration → ℕ
declaration_points (bodies.Declaration first written ds) =
    (if has_initialiser ds then 2 else 0) + declarators_points ds

-- statements ---------------------------------------------------------------------------------------------------------

abbrev pub start_points : TypedStart → ℕ
start_points bodies.StartEmpty = 0
start_points (bodies.StartExpression x) = expression_points x
start_points (bodies.StartDeclaration d) = declaration_points d

-- 6.8.5.3: an absent test or step has none
abbrev pub tested_points : Option Typed → ℕ
tested_points None = 0
tested_points (Some x) = 1 + expression_points x

abbrev pub stepped_points : Option Typed → ℕ
stepped_points None = 0
stepped_points (Some x) = expression_points x

abbrev mutual
  pub statement_points : TypedStatement → ℕ
  statement_points (bodies.Block first is) = 2 + items_points is
  statement_points (bodies.Empty first) = 2
  statement_points (bodies.ExpressionStatement x) = 2 + expression_points x
  statement_points (bodies.If keyword x s) = (3 + expression_points x) + statement_points s
  statement_points (bodies.IfElse keyword x s t) =
      (3 + expression_points x) + (statement_points s + statement_points t)
  statement_points (bodies.Switch keyword x s) = (3 + expression_points x) + statement_points s
  statement_points (bodies.While keyword x s) = (3 + expression_points x) + statement_points s
  statement_points (bodies.Do keyword s x) = (3 + expression_points x) + statement_points s
  statement_points (bodies.For keyword start x step s) =
      start_points start + ((2 + (tested_points x + stepped_points step)) + statement_points s)
  statement_points (bodies.Case keyword in_switch x v s) = 2 + statement_points s
  statement_points (bodies.Default keyword in_switch s) = 2 + statement_points s
  statement_points (bodies.Label keyword name s) = 2 + statement_points s
  statement_points (bodies.Goto keyword name) = 2
  statement_points (bodies.Jump keyword to found) = 2
  statement_points (bodies.Return keyword) = 2
  statement_points (bodies.ReturnValue keyword result x) = 2 + expression_points x

  pub items_points : TypedItems → ℕ
  items_points bodies.NoItems = 0
  items_points (bodies.DeclarationItem d rest) = declaration_points d + items_points rest
  items_points (bodies.StatementItem s rest) = statement_points s + items_points rest

-- a function is entered and left, and one that keeps the kernel's status has two points more
abbrev pub function_points : TypedFunction → ℕ
function_points f = (if status_in f.items then 4 else 2) + items_points f.items
