-- Which rows say what the names of a typed project stand for where they are called, and in which rows each call begins
-- where its expression does: what the rows of calls rest on, and what more is said of them.
use Rattle.std.specs.Prelude.{◌≡◌, ℕ, List, map, slice_get, Option, Some}
use Rattle.ck_base.specs.declared.spans.FnId.{FnId}
use Rattle.ck_base.specs.declared.tokens.Token.{Token}
use Rattle.ck_graph.specs.declared.points.ActName.{ActName}
use Rattle.ck_prog.specs.Calls.{CallSite, numbered_calls}
use Rattle.ck_call_rows.specs.TypedRows.{AreCalls, AreTypedCalls, IsCalledAs, project}
use Rattle.ck_tables.specs.Program.{entry_of, functions}
use Rattle.ck_tables.specs.declared.program.Linked.{Linked}
use Rattle.ck_tables.specs.declared.program_rows.CallInfo.{CallInfo}
use Rattle.ck_tables.specs.declared.program_rows.ProgramRows.{ProgramRows}
use Rattle.ck_tables.specs.declared.program_rows.UseInfo.{UseInfo}

-- each declared name has the act that a call by it is, if it is one, and the number of the function, if it has a body
pub record AreNames (l : Linked) (r : ProgramRows) : Type 0 where
  pub each : (i : ℕ) (u : UseInfo) → slice_get r.uses.rows.items i ≡ Some u → IsCalledAs l r (entry_of l i) u

abbrev pub first_of_row : CallInfo → Token
first_of_row c = c.first

abbrev pub first_of_site : CallSite → Token
first_of_site c = c.first

-- the rows of a typed project's calls, each with the token where its expression begins
pub record AreCallRows (l : Linked) (r : ProgramRows) : Type 0 where
  pub calls : AreCalls l r
  pub firsts :
      map first_of_row r.calls.rows.items
      ≡ map first_of_site (numbered_calls (project l r) (functions l))

-- what a use says of calls by the name
pub record CalledAs : Type 0 where
  pub act : Option ActName
  pub function : Option FnId

abbrev pub called_as : UseInfo → CalledAs
called_as u = record { act = u.act; function = u.function }

-- These rows are those of the calls, where these uses say what names are called as: in any rows of the project that
-- have both, whatever the slots of the uses are.
pub record NumberCalls (l : Linked) (us : List UseInfo) (cs : List CallInfo) : Type 0 where
  pub are :
      (r : ProgramRows) → map called_as r.uses.rows.items ≡ map called_as us → r.calls.rows.items ≡ cs
      → AreNames l r → AreCallRows l r

-- such rows are those of a typed project
abbrev pub RowsAreTyped : Type 0
RowsAreTyped = (l : Linked) (r : ProgramRows) → AreNames l r → AreCallRows l r → AreTypedCalls l r
