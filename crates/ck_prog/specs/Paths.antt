-- The path of a part in a function's body: a list of steps from the body down, one for each production on the way. This
-- is the table of all steps. Parts are counted from 0 in written order, and absent parts keep their numbers.
use Rattle.std.specs.Prelude.{ℕ, suc, ◌+◌, ◌*◌, List, [], ◌∷◌, ◌++◌}

pub data Part : Type 0 where
  -- expressions (6.5): what is in parentheses, under an operator before it or in a cast
  Enclosed : Part
  -- the operands of a chain, and its operators, each with the value of the chain up to it
  Operand : ℕ → Part
  OperatorOf : ℕ → Part
  -- what is before suffixes, and each suffix with the value of the row up to it
  Primary : Part
  Suffix : ℕ → Part
  -- in a suffix: the index, or the arguments
  IndexOf : Part
  ArgumentOf : ℕ → Part
  -- `? :`
  Condition : Part
  Second : Part
  Third : Part
  -- assignment
  Left : Part
  Right : Part
  -- initialisers and declarations (6.7): an element of braces; the initialiser of a declarator. An initialiser that is
  -- an expression has that expression's path.
  ElementOf : ℕ → Part
  InitialiserOf : ℕ → Part
  -- statements (6.8): the items of a block
  Item : ℕ → Part
  -- the expression of an expression statement, and of `return`
  Evaluated : Part
  -- `if`, `switch`, `while`
  Controlling : Part
  Controlled : Part
  Otherwise : Part
  -- `do`
  DoBody : Part
  DoTest : Part
  -- `for`
  ForStart : Part
  ForTest : Part
  ForStep : Part
  ForBody : Part
  -- `case` and its statement; what is after `default :` or a label
  CaseValue : Part
  CaseBody : Part
  Labelled : Part

abbrev pub step : Part → ℕ
step Enclosed = 0
step (Operand k) = 2 * k
step (OperatorOf k) = 2 * k + 1
step Primary = 0
step (Suffix k) = suc k
step IndexOf = 0
step (ArgumentOf k) = k
step Condition = 0
step Second = 1
step Third = 2
step Left = 0
step Right = 1
step (ElementOf k) = k
step (InitialiserOf k) = k
step (Item k) = k
step Evaluated = 0
step Controlling = 0
step Controlled = 1
step Otherwise = 2
step DoBody = 0
step DoTest = 1
step ForStart = 0
step ForTest = 1
step ForStep = 2
step ForBody = 3
step CaseValue = 0
step CaseBody = 1
step Labelled = 0

abbrev pub Path : Type 0
Path = List ℕ

-- the path of a part of what has this path; the body of a function has the empty one
abbrev pub below : Path → Part → Path
below path part = path ++ (step part ∷ [])
