-- Which rows are those of a typed project, by ck_prog's definitions on its declarations and functions: its calls in the
-- order of their numbers, and what its names stand for where they are called. Who types a project promises this, and
-- who reads its rows stands on it.
use Rattle.std.specs.Prelude.{◌≡◌, ℕ, suc, List, [], ◌∷◌, ◌++◌, map, filter, reverse, slice_get, Option, Some}
use Rattle.std.specs.Option.{option_map}
use Rattle.ck_base.specs.declared.ops.Op.{Op}
use Rattle.ck_base.specs.declared.spans.FnId.{FnId}
use Rattle.ck_prog.specs.Acts.{Project, act_of}
use Rattle.ck_prog.specs.Calls.{CallSite, calls_of_function, call_kind, function_number, is_numbered, numbered_calls}
use Rattle.ck_prog.specs.Declarations.{Entry}
use Rattle.ck_prog.specs.Paths.{Path, Suffix, below}
use Rattle.ck_prog.specs.TypedBodies.{TypedFunction}
use Rattle.ck_tables.specs.Entries.{plain_entry}
use Rattle.ck_tables.specs.Program.{entry_of, entry_readings, functions}
use Rattle.ck_tables.specs.ProgramRows.{NumberedCall, calls_of, outside_names}
use Rattle.ck_tables.specs.declared.program.Linked.{Linked}
use Rattle.ck_tables.specs.declared.program_rows.CallInfo.{CallInfo}
use Rattle.ck_tables.specs.declared.program_rows.OutsideInfo.{OutsideInfo}
use Rattle.ck_tables.specs.declared.program_rows.ProgramRows.{ProgramRows}
use Rattle.ck_tables.specs.declared.program_rows.UseInfo.{UseInfo}

-- all declarations, the latest first
abbrev pub declarations : Linked → List Entry
declarations l = reverse (map (plain_entry (entry_readings l)) l.entries.rows.items)

-- with the names of the functions that the settings name, and what a call of each does
abbrev pub project : Linked → ProgramRows → Project
project l r = record { all = declarations l; outside = outside_names l r }

abbrev pub op_of_outside : OutsideInfo → Op
op_of_outside o = o.op

abbrev pub outside_ops : ProgramRows → List Op
outside_ops r = map op_of_outside r.outside.rows.items

-- calls ---------------------------------------------------------------------------------------------------------------

-- where a call is: the number of its function, and its path in the body
pub record CallPlace : Type 0 where
  pub function : ℕ
  pub path : Path

abbrev pub place_of_site : ℕ → CallSite → CallPlace
place_of_site i c = record { function = i; path = c.path }

-- of the calls that are no acts, in the functions from this number on
abbrev pub call_places : Project → ℕ → List TypedFunction → List CallPlace
call_places k i [] = []
call_places k i (f ∷ fs) =
    map (place_of_site i) (filter (is_numbered k) (calls_of_function f)) ++ call_places k (suc i) fs

abbrev pub place_of_row : CallInfo → CallPlace
place_of_row c = record { function = c.function.0; path = below c.path.items (Suffix c.suffix) }

-- a call, with what it calls
abbrev pub numbered : Linked → ProgramRows → CallSite → Option NumberedCall
numbered l r c = Some (record { site = c; kind = call_kind (project l r) (functions l) c })

pub record AreCalls (l : Linked) (r : ProgramRows) : Type 0 where
  pub places : map place_of_row r.calls.rows.items ≡ call_places (project l r) 0 (functions l)
  pub calls : calls_of l r ≡ map (numbered l r) (numbered_calls (project l r) (functions l))

-- names ---------------------------------------------------------------------------------------------------------------

abbrev pub number_of_function : FnId → ℕ
number_of_function f = f.0

-- the act that a call by the name is, if it is one, and the number of the function, if it has a body
pub record IsCalledAs (l : Linked) (r : ProgramRows) (e : Entry) (u : UseInfo) : Type 0 where
  pub act : u.act ≡ act_of (project l r) (Some e)
  pub function : option_map number_of_function u.function ≡ function_number (functions l) e

-- what a typed project's rows say of its calls
pub record AreTypedCalls (l : Linked) (r : ProgramRows) : Type 0 where
  pub calls : AreCalls l r
  pub names :
      (i : ℕ) (u : UseInfo) → slice_get r.uses.rows.items i ≡ Some u → IsCalledAs l r (entry_of l i) u
