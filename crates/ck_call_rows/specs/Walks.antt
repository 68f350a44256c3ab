-- What a walk over the body of a function adds to the rows of calls.
use Rattle.std.specs.Prelude.{◌≡◌, ◌+◌, ◌*◌, ℕ, suc, max, Bool, true, false, List, [], ◌∷◌, ◌++◌, map, filter}
use Rattle.std.specs.Prelude.{Option, Some, None}
use Rattle.ck_base.specs.declared.tokens.Token.{Token}
use Rattle.ck_base.specs.declared.spans.FnId.{FnId}
use Rattle.ck_graph.specs.declared.points.ActName.{ActName}
use Rattle.ck_call_rows.specs.Naming.{AreNames, called_as}
use Rattle.ck_call_rows.specs.TypedRows.{CallPlace, place_of_row, place_of_site, project, numbered}
use Rattle.ck_call_rows.specs.declared.callees.Called.{Called}
use Rattle.ck_call_rows.specs.declared.trail.Trail.{Trail, fold-Trail}
use Rattle.ck_call_rows.specs.declared.trail.Trail.TheOpen.{Trail-F}
use Rattle.ck_call_rows.specs.declared.walk.Walk.{Walk}
use Rattle.ck_prog.specs.Calls.{CallSite, call_kind, is_numbered, row_of, calls_in, calls_in_arguments, calls_in_steps}
use Rattle.ck_prog.specs.Calls.{calls_in_declaration, calls_in_statement, calls_of_function}
use Rattle.ck_prog.specs.Paths as part
use Rattle.ck_prog.specs.Paths.{Path, below}
use Rattle.ck_prog.specs.TypedBodies.{TypedFunction, TypedInitialiser, TypedStatement}
use Rattle.ck_prog.specs.TypedTrees.{Typed, Steps, NoSteps, Postfix}
use Rattle.ck_tables.specs.ExprTable.{tree_at, steps_of, arguments_of}
use Rattle.ck_tables.specs.InitTable.{init_at}
use Rattle.ck_tables.specs.Program.{entry_of, functions, readings, with_expressions, body_readings, declaration_of}
use Rattle.ck_tables.specs.Program.{plain_body}
use Rattle.ck_tables.specs.ProgramRows.{NumberedCall, call_at, call_of, kind_by}
use Rattle.ck_tables.specs.Readings.{plain_entry}
use Rattle.ck_tables.specs.StmtTable.{statement_at}
use Rattle.ck_tables.specs.declared.exprs.Step.{Step}
use Rattle.ck_tables.specs.declared.exprs.Step.TheVariants as steps
use Rattle.ck_tables.specs.declared.facts.EntryId.{EntryId}
use Rattle.ck_tables.specs.declared.inits.InitId.{InitId}
use Rattle.ck_tables.specs.declared.inits.InitItem.{InitItem}
use Rattle.ck_tables.specs.declared.inits.InitItem.TheVariants as elements
use Rattle.ck_tables.specs.declared.program.Body.{Body}
use Rattle.ck_tables.specs.declared.program.Linked.{Linked}
use Rattle.ck_tables.specs.declared.program_rows.CallInfo.{CallInfo}
use Rattle.ck_tables.specs.declared.program_rows.Callee.{Callee}
use Rattle.ck_tables.specs.declared.program_rows.Callee.TheVariants as callees
use Rattle.ck_tables.specs.declared.program_rows.ProgramRows.{ProgramRows}
use Rattle.ck_tables.specs.declared.program_rows.UseInfo.{UseInfo}
use Rattle.ck_tables.specs.declared.stmts.Item.{Item}
use Rattle.ck_tables.specs.declared.stmts.Item.TheVariants as items

-- paths ---------------------------------------------------------------------------------------------------------------

abbrev pub trail_path : Trail-F Path → Path
trail_path Trail-F.Body = []
trail_path (Trail-F.Below above step) = above.now ++ (step ∷ [])

abbrev pub path_of : Trail → Path
path_of = fold-Trail Path trail_path

-- the trees of numbers ------------------------------------------------------------------------------------------------

abbrev pub tables : Walk → Linked
tables w = w.linked.now

abbrev pub tree : Linked → ℕ → Typed
tree l i = tree_at (readings l) l.exprs i

abbrev pub initialiser : Linked → ℕ → TypedInitialiser
initialiser l i = init_at (with_expressions l) l.inits i

abbrev pub statement : Linked → ℕ → TypedStatement
statement l i = statement_at (body_readings l) l.stmts i

-- the initialiser of an element of braces
abbrev pub element_initialiser : InitItem → InitId
element_initialiser (elements.Plain i) = i
element_initialiser (elements.Designated i designation) = i

-- rows ----------------------------------------------------------------------------------------------------------------

-- what a row says of its call
pub record Shown : Type 0 where
  pub place : CallPlace
  pub first : Token
  pub call : Option NumberedCall

unfoldable pub shown : Linked → CallInfo → Shown
shown l c = record { place = place_of_row c; first = c.first; call = call_of l c }

-- and what it is to say
abbrev pub expected : Linked → ProgramRows → ℕ → CallSite → Shown
expected l r i c = record { place = place_of_site i c; first = c.first; call = numbered l r c }

unfoldable pub expected_rows : Linked → ProgramRows → ℕ → List CallSite → List Shown
expected_rows l r i cs = map (expected l r i) (filter (is_numbered (project l r)) cs)

-- these rows of the project say what its names are called as
pub record AreUsed (l : Linked) (w : Walk) (r : ProgramRows) : Type 0 where
  pub uses : map called_as r.uses.rows.items ≡ map called_as w.uses.now
  pub names : AreNames l r

-- the rows of these calls were added, those of acts left out
pub record Adds (w : Walk) (old new : List CallInfo) (cs : List CallSite) : Type 0 where
  pub is :
      (r : ProgramRows) → AreUsed (tables w) w r
      → map (shown (tables w)) new
      ≡ map (shown (tables w)) old ++ expected_rows (tables w) r w.function.0 cs

-- the rows of some calls were added; these and others are all
pub record Leads (w : Walk) (old new : List CallInfo) (rest all : List CallSite) : Type 0 where
  pub done : List CallSite
  pub adds : Adds w old new done
  pub leads : all ≡ done ++ rest

-- functions, from this number on
abbrev pub expected_from : Linked → ProgramRows → ℕ → List Body → List Shown
expected_from l r i [] = []
expected_from l r i (f ∷ fs) =
    expected_rows l r i (calls_of_function (plain_body l f)) ++ expected_from l r (suc i) fs

-- the rows of some functions were added, where these uses are right; those from this number on, and these, are all
pub record AddedBefore (l : Linked) (us : List UseInfo) (rows : List CallInfo) (i : ℕ) (rest all : List Body)
    : Type 0 where
  pub is :
      (r : ProgramRows) → map called_as r.uses.rows.items ≡ map called_as us → AreNames l r
      → map (shown l) rows ++ expected_from l r i rest ≡ expected_from l r 0 all

-- callees -------------------------------------------------------------------------------------------------------------

-- no callee where a call is an act, else what it calls
abbrev pub Tells : Linked → ProgramRows → CallSite → Option Callee → Type 0
Tells l r c None = is_numbered (project l r) c ≡ false
Tells l r c (Some callee) =
    (is_numbered (project l r) c ≡ true) × (kind_by callee c ≡ call_kind (project l r) (functions l) c)

pub record IsCallee (w : Walk) (function : Option EntryId) (callee : Option Callee) : Type 0 where
  pub tells :
      (r : ProgramRows) (c : CallSite) → AreUsed (tables w) w r
      → c.function ≡ plain_entry (readings (tables w)) function → Tells (tables w) r c callee

-- what a call by a name calls, from the act that it is and the number of the function
abbrev pub callee_by : Option ActName → Option FnId → Option Callee
callee_by (Some act) function = None
callee_by None (Some function) = Some (callees.Function function)
callee_by None None = Some callees.Expression

pub record IsNamedCallee (w : Walk) (entry : EntryId) (callee : Option Callee) : Type 0 where
  pub tells :
      (r : ProgramRows) (c : CallSite) → AreUsed (tables w) w r
      → c.function ≡ Some (entry_of (tables w) entry.0) → Tells (tables w) r c callee

-- the call of an expression with this path
pub record IsSite (l : Linked) (π : Path) (called : Called) (c : CallSite) : Type 0 where
  pub found : call_at π called.suffix (tree l called.of.0) ≡ Some c
  pub path : c.path ≡ below π (part.Suffix called.suffix)
  pub named : c.function ≡ plain_entry (readings l) called.function
  pub begins : c.first ≡ called.first

-- suffixes ------------------------------------------------------------------------------------------------------------

-- an expression is the row of these suffixes
pub record IsRowOf (l : Linked) (of primary : ℕ) (ss : List Step) : Type 0 where
  pub is : tree l of ≡ Postfix (tree l primary) (steps_of (readings l) (tree l) ss)

-- the calls of a suffix after those before it: itself, where it is one, and those in it
abbrev pub calls_of_step : Linked → Path → Typed → Steps → ℕ → Step → List CallSite
calls_of_step l π x before k (steps.Index opening index facts) =
    calls_in (below (below π (part.Suffix k)) part.IndexOf) (tree l index.0)
calls_of_step l π x before k (steps.Call opening function es facts) =
    record {
      path = below π (part.Suffix k);
      first = facts.first;
      called = row_of x before;
      function = plain_entry (readings l) function;
      arguments = arguments_of (tree l) es.items;
    }
    ∷ calls_in_arguments (below π (part.Suffix k)) 0 (arguments_of (tree l) es.items)
calls_of_step l π x before k (steps.Access is_dot name member facts) = []
calls_of_step l π x before k (steps.PostIncrement token operator facts) = []

-- the rows of the calls of some suffixes were added; those from this one on, after these, and the others are all
pub record StepsLead (w : Walk) (old new : List CallInfo) (π : Path) (x : Typed) (k : ℕ) (rest all : List Step)
    : Type 0 where
  pub before : Steps
  pub leads :
      Leads w old new (calls_in_steps π x before k (steps_of (readings (tables w)) (tree (tables w)) rest))
      (calls_in_steps π x NoSteps 0 (steps_of (readings (tables w)) (tree (tables w)) all))

-- these are some of the calls, one after the other
pub record AreAmong (cs all : List CallSite) : Type 0 where
  pub earlier : List CallSite
  pub later : List CallSite
  pub are : all ≡ earlier ++ (cs ++ later)

-- the calls of an item with this path
abbrev pub calls_of_item : Linked → Path → Item → List CallSite
calls_of_item l π (items.Declaration d) = calls_in_declaration π (declaration_of l d.0)
calls_of_item l π (items.Statement s) = calls_in_statement π (statement l s.0)

-- how deep a walk over items goes: by the numbers of their statements -------------------------------------------------

abbrev pub part_depth : ℕ → ℕ
part_depth i = 4 * i + 4

abbrev pub item_depth : Item → ℕ
item_depth (items.Declaration d) = 0
item_depth (items.Statement s) = part_depth s.0

abbrev pub items_depth : List Item → ℕ
items_depth [] = 0
items_depth (i ∷ is) = max (item_depth i) (items_depth is)
