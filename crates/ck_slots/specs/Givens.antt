-- What a project gives to the holders of function pointers (docs/FLOW.md): by assignments, arguments, returns,
-- initialisers, and by the parameters of kernel calls that become functions of threads and of timers. All functions
-- count, called or not.
use Rattle.std.specs.Prelude.{Bool, true, false, ℕ, suc, List, [], ◌∷◌, ◌++◌, ◌&&◌, ◌==◌, Option, Some, None}
use Rattle.std.specs.Prelude.{codes, filter, flat_map, reverse, take, slice_get, option_to_list, if◌then◌else◌}
use Rattle.std.specs.Option.{is_none}
use Rattle.std.specs.Str.{bytes_eq}
use Rattle.ck_kernel.specs.KernelTable.{KernelCall}
use Rattle.ck_kernel.specs.declared.entries.EntrySink.{EntrySink}
use Rattle.ck_kernel.specs.declared.entries.EntrySink.TheVariants.{Thread, Timer}
use Rattle.ck_prog.specs.Calls.{CallSite, calls_of_function, function_number, functions_of, has_type_called}
use Rattle.ck_prog.specs.Declarations.{Entry, Meaning, Variable, FunctionNamed, MemberOf}
use Rattle.ck_prog.specs.Projects.{kernel_call}
use Rattle.ck_prog.specs.Slots.{slot_of_member, slot_of_result, slot_of_variable}
use Rattle.ck_prog.specs.TypedBodies.{TypedFile, TypedFunction}
use Rattle.ck_prog.specs.TypedInitialisers.{InitialisedPart, parts}
use Rattle.ck_prog.specs.TypedTrees as trees
use Rattle.ck_prog.specs.TypedTrees.{Arguments, Typed}
use Rattle.ck_prog.specs.declared.names.Defining.TheVariants.{Defines}
use Rattle.ck_prog.specs.declared.names.Linkage.TheVariants.{NoLinkage}
use Rattle.ck_slots.specs.Assignments.{Assigned, assignments}
use Rattle.ck_slots.specs.Holders.{Holder, ThreadSink, TimerSink, holder, slot_of_member_meant}
use Rattle.ck_slots.specs.Origins.{Origin, designated, held, origin}
use Rattle.ck_slots.specs.Wholes.{Whole, Evaluated, Returned, Initialised, wholes, wholes_of_files}
use Rattle.ck_types.specs.Types.{CType, Function, Parameters, NoParameters, Parameter, ByTag}

-- all declarations of a project, and its files
pub record TypedProject : Type 0 where
  pub all : List Entry
  pub files : List TypedFile

-- what comes from there goes to this holder
pub record Given : Type 0 where
  pub to : Holder
  pub from : Origin

-- if there is a holder for it
abbrev pub given : Option Holder → Origin → List Given
given None from = []
given (Some h) from = record { to = h; from = from } ∷ []

-- functions ----------------------------------------------------------------------------------------------------------

abbrev pub functions : TypedProject → List TypedFunction
functions p = functions_of p.files

abbrev pub parameter_count : Parameters → ℕ
parameter_count NoParameters = 0
parameter_count (Parameter t ps) = suc (parameter_count ps)

abbrev pub parameters_in : Meaning → ℕ
parameters_in (FunctionNamed (Some (Function q t ps more)) l d) = parameter_count ps
parameters_in _ = 0

abbrev pub is_defined_inside : Meaning → Bool
is_defined_inside (Variable t NoLinkage Defines s) = true
is_defined_inside _ = false

abbrev pub is_in_function : TypedFunction → Entry → Bool
is_in_function f e =
    e.file == f.declared.entry.file && bytes_eq e.scope f.scope && is_defined_inside e.meaning

-- 6.9.1: the parameters of a function with a body are the variables that its scope declares first
abbrev pub parameters : List Entry → TypedFunction → List Entry
parameters all f = take (parameters_in f.declared.entry.meaning) (reverse (filter (is_in_function f) all))

-- arguments (6.5.2.2) ------------------------------------------------------------------------------------------------

abbrev pub listed : Arguments → List Typed
listed trees.NoArguments = []
listed (trees.Argument x rest) = x ∷ listed rest

-- each to its parameter
abbrev pub passed : List Entry → List Entry → List Typed → List Given
passed all (e ∷ es) (x ∷ xs) = given (holder (slot_of_variable all e)) (origin all x) ++ passed all es xs
passed all _ _ = []

abbrev pub passed_to : List Entry → Option TypedFunction → List Typed → List Given
passed_to all None xs = []
passed_to all (Some f) xs = passed all (parameters all f) xs

-- the argument of this number, counted from 1
abbrev pub argument : ℕ → List Typed → Option Typed
argument (suc k) (x ∷ xs) = if k == 0 then Some x else argument k xs
argument _ _ = None

abbrev pub given_if_any : List Entry → Option Holder → Option Typed → List Given
given_if_any all to None = []
given_if_any all to (Some x) = given to (origin all x)

-- kernel calls -------------------------------------------------------------------------------------------------------

abbrev pub started : List Entry → EntrySink → List Typed → List Given
started all (Thread k) xs = given_if_any all (Some ThreadSink) (argument k xs)
started all (Timer k) xs = given_if_any all (Some TimerSink) (argument k xs)
started all _ xs = []

abbrev pub started_by : List Entry → Option KernelCall → List Typed → List Given
started_by all None xs = []
started_by all (Some row) xs = started all row.entry xs

-- a thread descriptor's function is started as a thread
abbrev pub started_by_descriptor : List Entry → List Given
started_by_descriptor all =
    let function = holder (slot_of_member all (ByTag (codes "ch_thread_descriptor")) (codes "funcp")) in
    given (Some ThreadSink) (held function)

-- calls --------------------------------------------------------------------------------------------------------------

abbrev pub function_at : TypedProject → Option ℕ → Option TypedFunction
function_at p None = None
function_at p (Some n) = slice_get (functions p) n

-- of a function by its name: of the kernel, or with a body
abbrev pub by_name : TypedProject → Option Entry → List Typed → List Given
by_name p None xs = []
by_name p (Some e) xs =
    started_by p.all (kernel_call e.name) xs ++ passed_to p.all (function_at p (function_number (functions p) e)) xs

abbrev pub by_call : TypedProject → CallSite → List Given
by_call p c = by_name p c.function (listed c.arguments)

-- of what an expression gives
abbrev pub calls_through : TypedProject → List CallSite
calls_through p = filter (λ c. is_none c.function) (flat_map calls_of_function (functions p))

-- what an expression evaluates or initialises ------------------------------------------------------------------------

-- 6.5.16
abbrev pub by_assignment : List Entry → Assigned → List Given
by_assignment all a = given (designated (origin all a.left)) (origin all a.right)

-- 6.7.8: to the last member on the way to the part, else to the variable
abbrev pub holder_of_part : List Entry → Entry → Option MemberOf → Option Holder
holder_of_part all e None = holder (slot_of_variable all e)
holder_of_part all e (Some m) = holder (slot_of_member_meant all m)

abbrev pub by_part : List Entry → Entry → InitialisedPart → List Given
by_part all e part = given_if_any all (holder_of_part all e part.object.member) part.value

abbrev pub value_in : InitialisedPart → List Typed
value_in part = option_to_list part.value

abbrev pub expressions_of : Whole → List Typed
expressions_of (Evaluated x) = x ∷ []
expressions_of (Returned x) = x ∷ []
expressions_of (Initialised e i) = flat_map value_in (parts i)

-- in a function with this holder for its result
abbrev pub by_itself : List Entry → Option Holder → Whole → List Given
by_itself all result (Evaluated x) = []
by_itself all result (Returned x) = given result (origin all x)
by_itself all result (Initialised e i) = flat_map (by_part all e) (parts i)

abbrev pub by_whole : List Entry → Option Holder → Whole → List Given
by_whole all result w =
    by_itself all result w ++ flat_map (by_assignment all) (flat_map assignments (expressions_of w))

-- projects -----------------------------------------------------------------------------------------------------------

abbrev pub by_function : TypedProject → TypedFunction → List Given
by_function p f =
    flat_map (by_whole p.all (holder (slot_of_result p.all f.declared.entry))) (wholes f.items)
    ++ flat_map (by_call p) (calls_of_function f)

abbrev pub givens : TypedProject → List Given
givens p =
    started_by_descriptor p.all
    ++ (flat_map (by_whole p.all None) (wholes_of_files p.files) ++ flat_map (by_function p) (functions p))

-- by the number of a function ----------------------------------------------------------------------------------------

-- 6.5.2.2: a call of what has this type may call the function
abbrev pub has_type : TypedProject → Option CType → Option TypedFunction → Bool
has_type p type None = false
has_type p type (Some f) = has_type_called p.all type f.declared.entry.meaning

abbrev pub may_be_called : TypedProject → Option CType → ℕ → Bool
may_be_called p type m = has_type p type (slice_get (functions p) m)

abbrev pub result_of : List Entry → Option TypedFunction → Option Holder
result_of all None = None
result_of all (Some f) = holder (slot_of_result all f.declared.entry)

-- the holder of the function's result
abbrev pub result_holder : TypedProject → ℕ → Option Holder
result_holder p m = result_of p.all (slice_get (functions p) m)

-- what a call gives to the function's parameters
abbrev pub by_target : TypedProject → ℕ → CallSite → List Given
by_target p m c = passed_to p.all (slice_get (functions p) m) (listed c.arguments)
