-- What of a function or a file is evaluated whole: the expressions of its statements, those of `return`, and the
-- initialisers of its variables, in written order (C99 6.8, 6.7.8).
use Rattle.std.specs.Prelude.{List, [], ◌∷◌, ◌++◌, Option, Some, None}
use Rattle.ck_prog.specs.Declarations.{Entry}
use Rattle.ck_prog.specs.TypedBodies as bodies
use Rattle.ck_prog.specs.TypedBodies.{TypedInitialiser, TypedDeclarators, TypedDeclaration, TypedStart, TypedStatement}
use Rattle.ck_prog.specs.TypedBodies.{TypedItems, TypedExternal, TypedFile}
use Rattle.ck_prog.specs.TypedTrees.{Typed}

pub data Whole : Type 0 where
  Evaluated : Typed → Whole
  -- the value of a `return`
  Returned : Typed → Whole
  -- of the variable that is declared so
  Initialised : Entry → TypedInitialiser → Whole

abbrev pub wholes_of_maybe : Option Typed → List Whole
wholes_of_maybe None = []
wholes_of_maybe (Some x) = Evaluated x ∷ []

abbrev pub wholes_of_given : Entry → Option TypedInitialiser → List Whole
wholes_of_given e None = []
wholes_of_given e (Some i) = Initialised e i ∷ []

abbrev pub wholes_of_declarators : TypedDeclarators → List Whole
wholes_of_declarators bodies.NoDeclared = []
wholes_of_declarators (bodies.Declared written f i rest) = wholes_of_given f.entry i ++ wholes_of_declarators rest

abbrev pub wholes_of_declaration : TypedDeclaration → List Whole
wholes_of_declaration (bodies.Declaration first written ds) = wholes_of_declarators ds

abbrev pub wholes_of_start : TypedStart → List Whole
wholes_of_start bodies.StartEmpty = []
wholes_of_start (bodies.StartExpression x) = Evaluated x ∷ []
wholes_of_start (bodies.StartDeclaration d) = wholes_of_declaration d

abbrev mutual
  pub wholes_of : TypedStatement → List Whole
  wholes_of (bodies.Block first is) = wholes is
  wholes_of (bodies.Empty first) = []
  wholes_of (bodies.ExpressionStatement x) = Evaluated x ∷ []
  wholes_of (bodies.If keyword test s) = Evaluated test ∷ wholes_of s
  wholes_of (bodies.IfElse keyword test s t) = Evaluated test ∷ (wholes_of s ++ wholes_of t)
  wholes_of (bodies.Switch keyword x s) = Evaluated x ∷ wholes_of s
  wholes_of (bodies.While keyword test s) = Evaluated test ∷ wholes_of s
  wholes_of (bodies.Do keyword s test) = wholes_of s ++ (Evaluated test ∷ [])
  wholes_of (bodies.For keyword start test step s) =
      wholes_of_start start ++ (wholes_of_maybe test ++ (wholes_of_maybe step ++ wholes_of s))
  wholes_of (bodies.Case keyword in_switch x v s) = wholes_of s
  wholes_of (bodies.Default keyword in_switch s) = wholes_of s
  wholes_of (bodies.Label name text s) = wholes_of s
  wholes_of (bodies.Goto keyword name) = []
  wholes_of (bodies.Jump keyword to found) = []
  wholes_of (bodies.Return keyword) = []
  wholes_of (bodies.ReturnValue keyword result x) = Returned x ∷ []

  pub wholes : TypedItems → List Whole
  wholes bodies.NoItems = []
  wholes (bodies.DeclarationItem d rest) = wholes_of_declaration d ++ wholes rest
  wholes (bodies.StatementItem s rest) = wholes_of s ++ wholes rest

-- the initialisers of file scope
abbrev pub wholes_outside : List TypedExternal → List Whole
wholes_outside [] = []
wholes_outside (bodies.FileDeclaration d ∷ xs) = wholes_of_declaration d ++ wholes_outside xs
wholes_outside (bodies.FunctionDefinition f ∷ xs) = wholes_outside xs

abbrev pub wholes_of_files : List TypedFile → List Whole
wholes_of_files [] = []
wholes_of_files (f ∷ fs) = wholes_outside f.externals ++ wholes_of_files fs
