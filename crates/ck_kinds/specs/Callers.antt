-- A function whose calls have numbers, and where its paths come among the rows of a project's calls.
use Rattle.std.specs.Prelude.{◌≡◌, ◌<◌, ℕ, Bool, List, length, map}
use Rattle.ck_drafts.specs.Drafts.{PlainDraft}
use Rattle.ck_kinds.specs.CallOrder.{against, call_place, IsRank}
use Rattle.ck_kinds.specs.KindedDrafts.{drafted, flow_program}
use Rattle.ck_kinds.specs.declared.callers.Caller.{Caller}
use Rattle.ck_passages.specs.declared.drawing.PassagePoint.{PassagePoint}
use Rattle.ck_points.specs.Graphs.{Program}
use Rattle.ck_prog.specs.Paths.{Path}
use Rattle.ck_prog.specs.TypedBodies.{TypedFunction}
use Rattle.ck_tables.specs.Program.{functions}
use Rattle.ck_call_rows.specs.TypedRows.{AreTypedCalls, CallPlace, place_of_row}
use Rattle.ck_tables.specs.declared.program.Linked.{Linked}
use Rattle.ck_tables.specs.declared.program_rows.ProgramRows.{ProgramRows}

abbrev pub tables : Caller → Linked
tables c = c.program.now.linked

abbrev pub rows : Caller → ProgramRows
rows c = c.program.now.rows

abbrev pub flow : Caller → Program
flow c = flow_program (tables c) (rows c)

abbrev pub draft_of : Caller → TypedFunction → PassagePoint → PlainDraft
draft_of c f d = drafted (tables c) (rows c) c.function.0 f d

-- one of a typed project's functions
pub record IsCaller (c : Caller) : Type 0 where
  pub typed : AreTypedCalls (tables c) (rows c)
  pub count : c.calls ≡ length (rows c).calls.rows.items
  pub there : c.function.0 < length (functions (tables c))

-- the places of the project's calls, by their numbers
abbrev pub places : Caller → List CallPlace
places c = map place_of_row (rows c).calls.rows.items

-- so many calls come before a path of the function; whether it is a call's
abbrev pub IsRankOf : Caller → Path → ℕ → Bool → Type 0
IsRankOf c π number found = IsRank (against (call_place c.function.0 π)) (places c) number found

pub record ComeBefore (c : Caller) (π : Path) (number : ℕ) : Type 0 where
  pub found : Bool
  pub rank : IsRankOf c π number found

-- the calls before a path of the function come first, and those after it last
pub record AreInOrder (c : Caller) (π : Path) : Type 0 where
  pub number : ℕ
  pub before : ComeBefore c π number
