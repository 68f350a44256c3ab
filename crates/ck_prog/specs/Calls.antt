-- The functions of a project and their evaluated calls, each with its path, in the order of paths; which of them are
-- acts, and the numbers of the others.
use Rattle.std.specs.Prelude.{ℕ, suc, Bool, true, false, List, [], ◌∷◌, ◌++◌, position, filter}
use Rattle.std.specs.Prelude.{Option, Some, None, if◌then◌else◌}
use Rattle.std.specs.Option.{is_none}
use Rattle.ck_base.specs.declared.tokens.Token.{Token}
use Rattle.ck_graph.specs.declared.points.ActName.{ActName}
use Rattle.ck_types.specs.Types.{CType, Pointer}
use Rattle.ck_prog.specs.Acts.{Project, act_of}
use Rattle.ck_prog.specs.Declarations.{Entry, Meaning, FunctionNamed}
use Rattle.ck_prog.specs.Linking.{are_one}
use Rattle.ck_prog.specs.OverFiles.{compatible_over_files}
use Rattle.ck_prog.specs.Paths as part
use Rattle.ck_prog.specs.Paths.{Path, below}
use Rattle.ck_prog.specs.Senses.{value_type}
use Rattle.ck_prog.specs.TypedBodies as bodies
use Rattle.ck_prog.specs.TypedBodies.{TypedInitialiser, TypedInitialisers, TypedDeclarators, TypedDeclaration}
use Rattle.ck_prog.specs.TypedBodies.{TypedStart}
use Rattle.ck_prog.specs.TypedBodies.{TypedStatement, TypedItems, TypedFunction, TypedExternal, TypedFile}
use Rattle.ck_prog.specs.TypedTrees as trees
use Rattle.ck_prog.specs.TypedTrees.{Typed, Links, Arguments, Steps, Facts, facts}
use Rattle.ck_prog.specs.declared.operators.Prefix.{Prefix}
use Rattle.ck_prog.specs.declared.operators.Prefix.TheVariants.{SizeOf}

-- a call that is evaluated
pub record CallSite : Type 0 where
  pub path : Path
  -- where the expression begins
  pub first : Token
  -- the called expression, and the function that it names, if it is a function's name
  pub called : Typed
  pub function : Option Entry
  pub arguments : Arguments

-- a row of suffixes up to a suffix -----------------------------------------------------------------------------------

abbrev pub followed : Steps → Steps → Steps
followed trees.NoSteps more = more
followed (trees.Index opening x f rest) more = trees.Index opening x f (followed rest more)
followed (trees.Call opening function es f rest) more = trees.Call opening function es f (followed rest more)
followed (trees.Access is_dot name m f rest) more = trees.Access is_dot name m f (followed rest more)
followed (trees.PostIncrement t op f rest) more = trees.PostIncrement t op f (followed rest more)

abbrev pub row_of : Typed → Steps → Typed
row_of x trees.NoSteps = x
row_of x steps = trees.Postfix x steps

-- expressions --------------------------------------------------------------------------------------------------------

-- nothing under `sizeof` is evaluated (6.5.3.4)
abbrev pub is_size : Prefix → Bool
is_size SizeOf = true
is_size _ = false

abbrev mutual
  pub calls_in : Path → Typed → List CallSite
  calls_in π (trees.Name f e) = []
  calls_in π (trees.Constant f) = []
  calls_in π (trees.Strings f ts) = []
  calls_in π (trees.Paren f x) = calls_in (below π part.Enclosed) x
  calls_in π (trees.Postfix x steps) = calls_in (below π part.Primary) x ++ calls_in_steps π x trees.NoSteps 0 steps
  calls_in π (trees.Unary f op x) = if is_size op then [] else calls_in (below π part.Enclosed) x
  calls_in π (trees.SizeofType f written) = []
  calls_in π (trees.Cast f written x) = calls_in (below π part.Enclosed) x
  calls_in π (trees.Chain x links) = calls_in (below π (part.Operand 0)) x ++ calls_in_links π 1 links
  calls_in π (trees.Conditional f test a b) =
      calls_in (below π part.Condition) test
      ++ (calls_in (below π part.Second) a ++ calls_in (below π part.Third) b)
  calls_in π (trees.Assignment f op a b) = calls_in (below π part.Left) a ++ calls_in (below π part.Right) b

  -- from the operand of this number on
  pub calls_in_links : Path → ℕ → Links → List CallSite
  calls_in_links π k trees.NoLinks = []
  calls_in_links π k (trees.Link op x f rest) =
      calls_in (below π (part.Operand k)) x ++ calls_in_links π (suc k) rest

  pub calls_in_arguments : Path → ℕ → Arguments → List CallSite
  calls_in_arguments π k trees.NoArguments = []
  calls_in_arguments π k (trees.Argument x rest) =
      calls_in (below π (part.ArgumentOf k)) x ++ calls_in_arguments π (suc k) rest

  -- from the suffix of this number on, after what is before it
  pub calls_in_steps : Path → Typed → Steps → ℕ → Steps → List CallSite
  calls_in_steps π x before k trees.NoSteps = []
  calls_in_steps π x before k (trees.Index opening i f rest) =
      calls_in (below (below π (part.Suffix k)) part.IndexOf) i
      ++ calls_in_steps π x (followed before (trees.Index opening i f trees.NoSteps)) (suc k) rest
  calls_in_steps π x before k (trees.Call opening function es f rest) =
      record {
        path = below π (part.Suffix k);
        first = f.first;
        called = row_of x before;
        function = function;
        arguments = es;
      }
      ∷ (calls_in_arguments (below π (part.Suffix k)) 0 es
      ++ calls_in_steps π x (followed before (trees.Call opening function es f trees.NoSteps)) (suc k) rest)
  calls_in_steps π x before k (trees.Access is_dot name m f rest) =
      calls_in_steps π x (followed before (trees.Access is_dot name m f trees.NoSteps)) (suc k) rest
  calls_in_steps π x before k (trees.PostIncrement t op f rest) =
      calls_in_steps π x (followed before (trees.PostIncrement t op f trees.NoSteps)) (suc k) rest

abbrev pub calls_in_maybe : Path → Option Typed → List CallSite
calls_in_maybe π None = []
calls_in_maybe π (Some x) = calls_in π x

-- initialisers and declarations --------------------------------------------------------------------------------------

abbrev mutual
  pub calls_in_initialiser : Path → TypedInitialiser → List CallSite
  calls_in_initialiser π (bodies.Value f x) = calls_in π x
  calls_in_initialiser π (bodies.Braces f is) = calls_in_initialisers π 0 is

  pub calls_in_initialisers : Path → ℕ → TypedInitialisers → List CallSite
  calls_in_initialisers π k bodies.NoInitialisers = []
  calls_in_initialisers π k (bodies.Initialiser ds i rest) =
      calls_in_initialiser (below π (part.ElementOf k)) i ++ calls_in_initialisers π (suc k) rest

abbrev pub calls_in_given : Path → Option TypedInitialiser → List CallSite
calls_in_given π None = []
calls_in_given π (Some i) = calls_in_initialiser π i

abbrev pub calls_in_declarators : Path → ℕ → TypedDeclarators → List CallSite
calls_in_declarators π k bodies.NoDeclared = []
calls_in_declarators π k (bodies.Declared written f i rest) =
    calls_in_given (below π (part.InitialiserOf k)) i ++ calls_in_declarators π (suc k) rest

abbrev pub calls_in_declaration : Path → TypedDeclaration → List CallSite
calls_in_declaration π (bodies.Declaration first written ds) = calls_in_declarators π 0 ds

-- statements ---------------------------------------------------------------------------------------------------------

abbrev pub calls_in_start : Path → TypedStart → List CallSite
calls_in_start π bodies.StartEmpty = []
calls_in_start π (bodies.StartExpression x) = calls_in π x
calls_in_start π (bodies.StartDeclaration d) = calls_in_declaration π d

abbrev mutual
  pub calls_in_statement : Path → TypedStatement → List CallSite
  calls_in_statement π (bodies.Block first is) = calls_in_items π 0 is
  calls_in_statement π (bodies.Empty first) = []
  calls_in_statement π (bodies.ExpressionStatement x) = calls_in (below π part.Evaluated) x
  calls_in_statement π (bodies.If keyword test s) =
      calls_in (below π part.Controlling) test ++ calls_in_statement (below π part.Controlled) s
  calls_in_statement π (bodies.IfElse keyword test s t) =
      calls_in (below π part.Controlling) test
      ++ (calls_in_statement (below π part.Controlled) s ++ calls_in_statement (below π part.Otherwise) t)
  calls_in_statement π (bodies.Switch keyword x s) =
      calls_in (below π part.Controlling) x ++ calls_in_statement (below π part.Controlled) s
  calls_in_statement π (bodies.While keyword test s) =
      calls_in (below π part.Controlling) test ++ calls_in_statement (below π part.Controlled) s
  calls_in_statement π (bodies.Do keyword s test) =
      calls_in_statement (below π part.DoBody) s ++ calls_in (below π part.DoTest) test
  calls_in_statement π (bodies.For keyword start test step s) =
      calls_in_start (below π part.ForStart) start
      ++ (calls_in_maybe (below π part.ForTest) test
      ++ (calls_in_maybe (below π part.ForStep) step ++ calls_in_statement (below π part.ForBody) s))
  -- the value of a label is a constant
  calls_in_statement π (bodies.Case keyword in_switch x v s) = calls_in_statement (below π part.CaseBody) s
  calls_in_statement π (bodies.Default keyword in_switch s) = calls_in_statement (below π part.Labelled) s
  calls_in_statement π (bodies.Label name text s) = calls_in_statement (below π part.Labelled) s
  calls_in_statement π (bodies.Goto keyword name) = []
  calls_in_statement π (bodies.Jump keyword to found) = []
  calls_in_statement π (bodies.Return keyword) = []
  calls_in_statement π (bodies.ReturnValue keyword result x) = calls_in (below π part.Evaluated) x

  pub calls_in_items : Path → ℕ → TypedItems → List CallSite
  calls_in_items π k bodies.NoItems = []
  calls_in_items π k (bodies.DeclarationItem d rest) =
      calls_in_declaration (below π (part.Item k)) d ++ calls_in_items π (suc k) rest
  calls_in_items π k (bodies.StatementItem s rest) =
      calls_in_statement (below π (part.Item k)) s ++ calls_in_items π (suc k) rest

-- functions, numbered by file and then by the place of their name ----------------------------------------------------

abbrev pub functions_in : List TypedExternal → List TypedFunction
functions_in [] = []
functions_in (bodies.FileDeclaration d ∷ xs) = functions_in xs
functions_in (bodies.FunctionDefinition f ∷ xs) = f ∷ functions_in xs

abbrev pub functions_of : List TypedFile → List TypedFunction
functions_of [] = []
functions_of (f ∷ fs) = functions_in f.externals ++ functions_of fs

abbrev pub calls_of_function : TypedFunction → List CallSite
calls_of_function f = calls_in_items [] 0 f.items

-- the number of the function that a declaration declares, where it has a body
abbrev pub function_number : List TypedFunction → Entry → Option ℕ
function_number functions e = position (λ f. are_one e f.declared.entry) functions

-- calls --------------------------------------------------------------------------------------------------------------

-- 6.5.2.2: a call through an expression may call a function that has the type of what is called; the two may be of
-- different files, where `all` are the declarations of the project
abbrev pub has_type_called : List Entry → Option CType → Meaning → Bool
has_type_called all (Some (Pointer q t)) (FunctionNamed (Some u) l d) = compatible_over_files all t u
has_type_called all _ _ = false

abbrev pub may_call : List Entry → Typed → Entry → Bool
may_call all called e = has_type_called all (value_type (facts called).sense) e.meaning

pub data CallKind : Type 0 where
  -- a kernel call, or a function that the settings name
  Acts : ActName → CallKind
  -- of a function by its name, with the function's number
  Direct : ℕ → CallKind
  -- of what an expression gives
  Through : Typed → CallKind

abbrev pub kind_by : List TypedFunction → CallSite → Option ActName → Option ℕ → CallKind
kind_by functions c (Some act) number = Acts act
kind_by functions c None (Some number) = Direct number
kind_by functions c None None = Through c.called

abbrev pub number_of : List TypedFunction → Option Entry → Option ℕ
number_of functions None = None
number_of functions (Some e) = function_number functions e

abbrev pub call_kind : Project → List TypedFunction → CallSite → CallKind
call_kind k functions c = kind_by functions c (act_of k c.function) (number_of functions c.function)

-- the calls of a project that are no acts, numbered in this order: by function, and then by path
abbrev pub is_numbered : Project → CallSite → Bool
is_numbered k c = is_none (act_of k c.function)

abbrev pub numbered_calls : Project → List TypedFunction → List CallSite
numbered_calls k [] = []
numbered_calls k (f ∷ fs) = filter (is_numbered k) (calls_of_function f) ++ numbered_calls k fs
