-- Points and edges by their places in a function's tree (docs/FLOW.md). No numbers: those are given to the places
-- afterwards (Numbering.antt, Graphs.antt).
use Rattle.std.specs.Prelude.{ℕ, List, [], Option}
use Rattle.ck_base.specs.declared.tokens.Token.{Token}
use Rattle.ck_graph.specs.declared.points.Label.{Label}
use Rattle.ck_prog.specs.Declarations.{Entry}
use Rattle.ck_prog.specs.Paths.{Path}
use Rattle.ck_points.specs.Evaluations.{Deed}

-- which of the points of one part, in this order
pub data Side : Type 0 where
  -- where an order of operands is taken
  Split : Side
  Before : Side
  -- of a body that keeps the kernel's status: where the function is entered, and where it is left
  Enter : Side
  Test : Side
  Leave : Side
  After : Side

abbrev pub side_number : Side → ℕ
side_number Split = 0
side_number Before = 1
side_number Enter = 2
side_number Test = 3
side_number Leave = 4
side_number After = 5

-- A part that is an operand of operators whose operands have several orders is there once for each of them: the orders
-- are those of these operators, from 1, the outermost first.
pub record Place : Type 0 where
  pub path : Path
  pub orders : List ℕ
  pub side : Side

abbrev pub place : Path → List ℕ → Side → Place
place π orders side = record { path = π; orders = orders; side = side }

-- places under no operator of several orders
abbrev pub before : Path → Place
before π = place π [] Before

abbrev pub test : Path → Place
test π = place π [] Test

abbrev pub after : Path → Place
after π = place π [] After

-- what happens at a point
pub data Happening : Type 0 where
  -- one of its edges is taken
  Passes : Happening
  -- a function is called, by its name where one is given
  Calls : Option Entry → Happening
  -- a function that keeps the kernel's status is entered or left
  EntersPair : Happening
  LeavesPair : Happening
  -- the function returns
  Ends : Happening

-- how it goes on: the work, which are deeds in their order, and then a point
pub record Way : Type 0 where
  pub work : List Deed
  pub to : Place

pub record Edge : Type 0 where
  pub label : Label
  pub way : Way

-- a point, with the edges that leave it in the order of their labels
pub record Point : Type 0 where
  pub place : Place
  pub happening : Happening
  pub site : Token
  pub edges : List Edge

-- straight to a point
abbrev pub leads : Place → Way
leads p = record { work = []; to = p }

abbrev pub edge : Label → Way → Edge
edge label way = record { label = label; way = way }
