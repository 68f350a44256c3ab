-- Which rows are those of a typed project's slots, by the definitions of ck_prog and ck_slots on its declarations: its
-- slots by their numbers, and the slots of what is named. Who types a project promises this, and who reads its rows
-- stands on it.
use Rattle.std.specs.Prelude.{◌≡◌, ◌<◌, ℕ, Bool, true, ◌&&◌, List, [], length, map, slice_get, Contains}
use Rattle.std.specs.Prelude.{Option, Some, None}
use Rattle.ck_base.specs.declared.spans.SlotId.{SlotId}
use Rattle.ck_call_rows.specs.TypedRows.{AreTypedCalls, declarations}
use Rattle.ck_prog.specs.Calls.{functions_of}
use Rattle.ck_prog.specs.Declarations.{Entry}
use Rattle.ck_prog.specs.Slots as spec
use Rattle.ck_prog.specs.Slots.{Slot, slot_number, slot_of_name}
use Rattle.ck_prog.specs.TypedBodies.{TypedExternal, TypedFile}
use Rattle.ck_prog.specs.TypedExpressions.{is_function_named}
use Rattle.ck_prog.specs.TypedTrees as trees
use Rattle.ck_prog.specs.TypedTrees.{Steps, Typed}
use Rattle.ck_slots.specs.Givens.{TypedProject}
use Rattle.ck_slots.specs.Holders.{slot_of_member_meant}
use Rattle.ck_tables.specs.ExprTable.{tree_at}
use Rattle.ck_tables.specs.Program.{entry_of, files, functions, member_of, readings}
use Rattle.ck_tables.specs.ProgramRows.{slots}
use Rattle.ck_tables.specs.declared.program.Linked.{Linked}
use Rattle.ck_tables.specs.declared.program_rows.ProgramRows.{ProgramRows}
use Rattle.ck_tables.specs.declared.program_rows.UseInfo.{UseInfo}

-- the bytes of a file bear on no slot
abbrev pub typed_file : List TypedExternal → TypedFile
typed_file externals = record { bytes = []; externals = externals }

-- its declarations and its files
abbrev pub typed_project : Linked → TypedProject
typed_project l = record { all = declarations l; files = map typed_file (files l) }

-- slots ---------------------------------------------------------------------------------------------------------------

-- these are the slots of the declarations, each at its number
pub record AreSlots (all : List Entry) (rows : List Slot) : Type 0 where
  pub count : length rows ≡ length (spec.slots all)
  pub each : (s : Slot) → Contains (spec.slots all) s → Contains rows s
  pub at_numbers :
      (i : ℕ) (s : Slot) → slice_get rows i ≡ Some s
      → Contains (spec.slots all) s × (slot_number (spec.slots all) s ≡ i)

-- the slot that a row names, if it names one
abbrev pub slot_named : List Slot → Option SlotId → Option Slot
slot_named rows None = None
slot_named rows (Some s) = slice_get rows s.0

-- calls by names ------------------------------------------------------------------------------------------------------

abbrev pub is_function_if_any : Option Entry → Bool
is_function_if_any None = true
is_function_if_any (Some e) = is_function_named e.meaning

-- 6.5.2.2: what the suffixes of a row call by its name is a function
abbrev pub call_functions : Steps → Bool
call_functions trees.NoSteps = true
call_functions (trees.Index opening x f rest) = call_functions rest
call_functions (trees.Call opening function es f rest) = is_function_if_any function && call_functions rest
call_functions (trees.Access is_dot name m f rest) = call_functions rest
call_functions (trees.PostIncrement t op f rest) = call_functions rest

abbrev pub calls_functions : Typed → Bool
calls_functions (trees.Postfix x steps) = call_functions steps
calls_functions _ = true

-- what a typed project's rows say of its slots ------------------------------------------------------------------------

pub record AreTypedSlots (l : Linked) (r : ProgramRows) : Type 0 where
  -- functions are numbered as they come in the files
  pub by_number : functions_of (typed_project l).files ≡ functions l
  pub numbered : AreSlots (declarations l) (slots l r)
  -- the slot of a variable, or of a function's result
  pub names :
      (i : ℕ) (u : UseInfo) → slice_get r.uses.rows.items i ≡ Some u
      → slot_named (slots l r) u.slot ≡ slot_of_name (declarations l) (entry_of l i) (entry_of l i).meaning
  pub members :
      (i : ℕ) (s : Option SlotId) → slice_get r.member_slots.rows.items i ≡ Some s
      → slot_named (slots l r) s ≡ slot_of_member_meant (declarations l) (member_of l i)
  pub called : (i : ℕ) → i < length l.exprs → calls_functions (tree_at (readings l) l.exprs i) ≡ true

-- what they say of its calls and slots
pub record AreTyped (l : Linked) (r : ProgramRows) : Type 0 where
  pub calls : AreTypedCalls l r
  pub slots_are : AreTypedSlots l r
