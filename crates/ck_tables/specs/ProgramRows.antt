-- What the rows of a typed project stand for, by ck_prog's definitions; and which rows fit its tables.
use Rattle.std.specs.Prelude.{ℕ, zero, suc, Bool, true, false, ◌&&◌, ◌==◌, nat_lt}
use Rattle.std.specs.Prelude.{List, [], ◌∷◌, length, map, find, Option}
use Rattle.std.specs.List.{list_all}
use Rattle.std.specs.Option.{option_map}
use Rattle.std.specs.Str.{bytes_eq}
use Rattle.ck_base.specs.declared.spans.SlotId.{SlotId}
use Rattle.ck_base.specs.declared.tokens.Token.{Token}
use Rattle.ck_graph.specs.declared.points.ActName.{ActName}
use Rattle.ck_graph.specs.declared.points.ActName.TheVariants as acts
use Rattle.ck_kernel.specs.KernelTable.{kernel_table}
use Rattle.ck_prog.specs.Calls as calls
use Rattle.ck_prog.specs.Calls.{CallSite, CallKind, calls_in}
use Rattle.ck_prog.specs.Paths.{Path, Suffix, below}
use Rattle.ck_prog.specs.Slots.{Slot}
use Rattle.ck_prog.specs.TypedBodies.{TypedFunction}
use Rattle.ck_prog.specs.TypedTrees.{Typed}
use Rattle.ck_tables.specs.ExprTable.{tree_at}
use Rattle.ck_tables.specs.Numbers.{Numbers, numbers, all_hold, fits_if_any, type_fits, name_fits, member_fits}
use Rattle.ck_tables.specs.Numbers.{entry_fits, function_fits}
use Rattle.ck_tables.specs.Program.{name_of, struct_of, readings, functions, plain_slot}
use Rattle.ck_tables.specs.Rows.{IsRow}
use Rattle.ck_tables.specs.declared.exprs.ExprNode.{ExprNode}
use Rattle.ck_tables.specs.declared.exprs.ExprNode.TheVariants as exprs
use Rattle.ck_tables.specs.declared.exprs.Step.{Step}
use Rattle.ck_tables.specs.declared.exprs.Step.TheVariants as steps
use Rattle.ck_tables.specs.declared.facts.EntryId.{EntryId}
use Rattle.ck_tables.specs.declared.program.Linked.{Linked}
use Rattle.ck_tables.specs.declared.program.SlotInfo.{SlotInfo}
use Rattle.ck_tables.specs.declared.program_rows.CallInfo.{CallInfo}
use Rattle.ck_tables.specs.declared.program_rows.Callee.{Callee}
use Rattle.ck_tables.specs.declared.program_rows.Callee.TheVariants as callees
use Rattle.ck_tables.specs.declared.program_rows.OutsideInfo.{OutsideInfo}
use Rattle.ck_tables.specs.declared.program_rows.ProgramRows.{ProgramRows}
use Rattle.ck_tables.specs.declared.program_rows.StructInfo.{StructInfo}
use Rattle.ck_tables.specs.declared.program_rows.StructMember.{StructMember}
use Rattle.ck_tables.specs.declared.program_rows.UseInfo.{UseInfo}

-- calls ---------------------------------------------------------------------------------------------------------------

abbrev pub has_path : Path → CallSite → Bool
has_path path site = bytes_eq path site.path

-- the evaluated call at a suffix, counted from 0, of an expression with this path
abbrev pub call_at : Path → ℕ → Typed → Option CallSite
call_at path suffix x = find (has_path (below path (Suffix suffix))) (calls_in path x)

-- a call with what it calls
pub record NumberedCall : Type 0 where
  pub site : CallSite
  pub kind : CallKind

abbrev pub kind_by : Callee → CallSite → CallKind
kind_by (callees.Function f) site = calls.Direct f.0
kind_by callees.Expression site = calls.Through site.called

abbrev pub with_kind : Callee → CallSite → NumberedCall
with_kind callee site = record { site = site; kind = kind_by callee site }

-- what a row stands for
unfoldable pub call_of : Linked → CallInfo → Option NumberedCall
call_of l c =
    option_map (with_kind c.callee) (call_at c.path.items c.suffix (tree_at (readings l) l.exprs c.node.0))

-- the calls by their numbers
abbrev pub calls_of : Linked → ProgramRows → List (Option NumberedCall)
calls_of l r = map (call_of l) r.calls.rows.items

-- this row has a call's number
abbrev pub IsCall : Linked → ProgramRows → ℕ → CallInfo → Type 0
IsCall l r i c = IsRow (calls_of l r) i (call_of l c)

-- slots, functions, and what the settings name ------------------------------------------------------------------------

abbrev pub slot_of : Linked → SlotInfo → Slot
slot_of l s = plain_slot (struct_of l) s

abbrev pub slots : Linked → ProgramRows → List Slot
slots l r = map (slot_of l) r.slots.rows.items

-- this row has a slot's number
abbrev pub IsSlot : Linked → ProgramRows → ℕ → SlotInfo → Type 0
IsSlot l r i s = IsRow (slots l r) i (slot_of l s)

-- the names of the functions with a body
abbrev pub function_name : TypedFunction → Token
function_name f = f.declared.entry.at

abbrev pub function_names : Linked → List Token
function_names l = map function_name (functions l)

-- the members of a struct, in the order in which they are declared
abbrev pub members_of : StructInfo → List StructMember
members_of s = s.members.items

abbrev pub struct_members : ProgramRows → List (List StructMember)
struct_members r = map members_of r.structs.rows.items

-- the names of the functions that the settings name
abbrev pub outside_name : Linked → OutsideInfo → List ℕ
outside_name l o = name_of l o.name.0

abbrev pub outside_names : Linked → ProgramRows → List (List ℕ)
outside_names l r = map (outside_name l) r.outside.rows.items

-- this row has the number of such a function
abbrev pub IsOutside : Linked → ProgramRows → ℕ → OutsideInfo → Type 0
IsOutside l r i o = IsRow (outside_names l r) i (outside_name l o)

-- which rows fit ------------------------------------------------------------------------------------------------------

abbrev pub is_call : Step → Bool
is_call (steps.Call opening function arguments facts) = true
is_call _ = false

-- the suffix of this number is a call
abbrev pub has_call : List Step → ℕ → Bool
has_call [] k = false
has_call (s ∷ ss) zero = is_call s
has_call (s ∷ ss) (suc k) = has_call ss k

abbrev pub node_has_call : ExprNode → ℕ → Bool
node_has_call (exprs.Postfix primary row) k = has_call row.items k
node_has_call _ k = false

abbrev pub has_call_at : List ExprNode → ℕ → ℕ → Bool
has_call_at [] i k = false
has_call_at (n ∷ ns) zero k = node_has_call n k
has_call_at (n ∷ ns) (suc i) k = has_call_at ns i k

abbrev pub callee_fits : Numbers → Callee → Bool
callee_fits n (callees.Function f) = function_fits n f
callee_fits n callees.Expression = true

unfoldable pub call_fits : Linked → CallInfo → Bool
call_fits l c =
    has_call_at l.exprs c.node.0 c.suffix
    && (function_fits (numbers l) c.function && callee_fits (numbers l) c.callee)

-- one of so many slots
abbrev pub slot_fits : ℕ → SlotId → Bool
slot_fits limit s = nat_lt s.0 limit

unfoldable pub slot_row_fits : Numbers → SlotInfo → Bool
slot_row_fits n s = type_fits n s.type_id

-- a call is a row of the kernel's table or one of so many functions of the settings; no call is a return or an entry
abbrev pub act_fits : ℕ → ActName → Bool
act_fits outside (acts.Kernel row) = nat_lt row.0 (length kernel_table)
act_fits outside (acts.Outside k) = nat_lt k outside
act_fits outside _ = false

-- where there are so many functions of the settings, and so many slots
unfoldable pub use_fits : Numbers → ℕ → ℕ → UseInfo → Bool
use_fits n outside limit u =
    fits_if_any (act_fits outside) u.act
    && (fits_if_any (function_fits n) u.function && fits_if_any (slot_fits limit) u.slot)

abbrev pub struct_member_fits : Numbers → StructMember → Bool
struct_member_fits n m = entry_fits n m.entry && member_fits n m.member

unfoldable pub members_fit : Numbers → List StructMember → Bool
members_fit n ms = list_all (struct_member_fits n) ms

abbrev pub struct_row_fits : Numbers → StructInfo → Bool
struct_row_fits n s = members_fit n s.members.items

unfoldable pub outside_fits : Numbers → OutsideInfo → Bool
outside_fits n o = name_fits n o.name

unfoldable pub member_slot_fits : ℕ → Option SlotId → Bool
member_slot_fits limit s = fits_if_any (slot_fits limit) s

unfoldable pub status_fits : Numbers → Option EntryId → Bool
status_fits n e = fits_if_any (entry_fits n) e

abbrev pub outside_count : ProgramRows → ℕ
outside_count r = length r.outside.rows.items

abbrev pub slot_count : ProgramRows → ℕ
slot_count r = length r.slots.rows.items

abbrev pub use_row_fits : Linked → ProgramRows → UseInfo → Bool
use_row_fits l r u = use_fits (numbers l) (outside_count r) (slot_count r) u

-- each declaration, member, struct and function has its row, and then one test a list of rows
abbrev pub row_tests : Linked → ProgramRows → List Bool
row_tests l r =
    (length r.uses.rows.items == length l.entries.rows.items)
    ∷ (length r.member_slots.rows.items == length l.members.rows.items)
    ∷ (length r.structs.rows.items == length l.structs.rows.items)
    ∷ (length r.statuses.rows.items == length l.bodies.rows.items)
    ∷ list_all (call_fits l) r.calls.rows.items
    ∷ list_all (slot_row_fits (numbers l)) r.slots.rows.items
    ∷ list_all (use_row_fits l r) r.uses.rows.items
    ∷ list_all (member_slot_fits (slot_count r)) r.member_slots.rows.items
    ∷ list_all (struct_row_fits (numbers l)) r.structs.rows.items
    ∷ list_all (status_fits (numbers l)) r.statuses.rows.items
    ∷ list_all (outside_fits (numbers l)) r.outside.rows.items
    ∷ []

-- the rows name numbers of the project alone, and each call is one
unfoldable pub are_rows : Linked → ProgramRows → Bool
are_rows l r = all_hold (row_tests l r)
