-- Laws of the kernel's call table.
use Rattle.std.specs.Prelude.{◌≡◌, ◌≢◌, ◌==◌, ◌↔◌, ℕ, Bool, true, false, ◌&&◌, nat_le, List, Some, IsTrue, IfSome}
use Rattle.std.specs.Prelude.{IfNone, All, AllPairs, Any, option_and_then}
use Rattle.std.specs.Option.{option_map}
use Rattle.ck_base.specs.declared.ops.Op.{Op}
use Rattle.ck_base.specs.declared.ops.Op.TheVariants.{Neutral, HandlerReturn, PairEnter, PairLeft}
use Rattle.ck_base.specs.declared.spans.RowId.{RowId}
use Rattle.ck_kernel.specs.declared.entries.EntrySink.{EntrySink}
use Rattle.ck_kernel.specs.declared.entries.EntrySink.TheVariants.{Absent, Thread, Descriptor, Timer}
use Rattle.ck_kernel.specs.KernelTable.{kernel_table, IsRow, call_at, row_named}

-- no two calls have one name
abbrev pub NamesDiffer : Type 0
NamesDiffer = AllPairs (λ one other. one.name ≢ other.name) kernel_table

-- the name of each row has that row
abbrev pub RowsHaveTheirNames : Type 0
RowsHaveTheirNames = (row : RowId) → IsRow row → option_and_then (λ c. row_named c.name) (call_at row) ≡ Some row

-- the row of a name has that name
abbrev pub NamesHaveTheirRows : Type 0
NamesHaveTheirRows =
    (text : List ℕ) → IfSome (row_named text) (λ row. option_map (λ c. c.name) (call_at row) ≡ Some text)

-- a name without a row is that of no call
abbrev pub OthersHaveNone : Type 0
OthersHaveNone = (text : List ℕ) → IfNone (row_named text) (All (λ c. c.name ≢ text) kernel_table)

-- whether a kernel call has this op: a neutral function of the project, a handler's return, and the begin and end of a
-- function that has a status variable are no kernel calls
abbrev pub is_of_calls : Op → Bool
is_of_calls Neutral = false
is_of_calls HandlerReturn = false
is_of_calls PairEnter = false
is_of_calls PairLeft = false
is_of_calls _ = true

-- an op has a call exactly where it is an op of kernel calls
abbrev pub OpsHaveCalls : Type 0
OpsHaveCalls = (op : Op) → IsTrue (is_of_calls op) ↔ Any (λ c. c.op ≡ op) kernel_table

-- whether an entry parameter is one of so many parameters
abbrev pub is_parameter : ℕ → EntrySink → Bool
is_parameter parameters Absent = true
is_parameter parameters (Thread k) = nat_le 1 k && nat_le k parameters
is_parameter parameters Descriptor = parameters == 1
is_parameter parameters (Timer k) = nat_le 1 k && nat_le k parameters

-- each entry parameter is one of its call's
abbrev pub EntriesAreParameters : Type 0
EntriesAreParameters = All (λ c. IsTrue (is_parameter c.parameters c.entry)) kernel_table
