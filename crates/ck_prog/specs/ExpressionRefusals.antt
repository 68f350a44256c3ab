-- What is refused of a name, a value, a cast or a call: U8, U13 to U18, and U26 (C99 6.5). A missing type refuses
-- nothing else.
use Rattle.std.specs.Prelude.{ℕ, ◌+◌, Bool, true, false, ◌&&◌, ◌||◌, not, nat_lt, List, [], ◌∷◌, codes}
use Rattle.std.specs.Prelude.{Option, Some, None, if◌then◌else◌}
use Rattle.std.specs.List.{list_any, list_all}
use Rattle.std.specs.Option.{is_some}
use Rattle.std.specs.Str.{bytes_eq}
use Rattle.ck_types.specs.Types.{CType, Parameters, Pointer, Array, Function, NoParameters, Parameter, compatible}
use Rattle.ck_prog.specs.Declarations.{Entry, Meaning, FunctionNamed}
use Rattle.ck_prog.specs.Projects.{Told, is_outside, is_kernel_call, is_unknown_kernel_name, keeps_status}
use Rattle.ck_prog.specs.Senses.{value_type}
use Rattle.ck_prog.specs.Sights.{CallSight, StatusUse, OfStatus, KeptBy, is_named}
use Rattle.ck_prog.specs.TypeClasses.{is_function_pointer, holds_function_pointers}
use Rattle.ck_prog.specs.TypedTrees.{Facts}
use Rattle.ck_prog.specs.declared.operators.Role.{Role}
use Rattle.ck_prog.specs.declared.operators.Role.TheVariants.{Called, Whole}

abbrev pub is_called : Role → Bool
is_called Called = true
is_called _ = false

abbrev pub is_whole : Role → Bool
is_whole Whole = true
is_whole _ = false

-- U8: a name without a declaration in sight; a kernel name outside the table is U13
abbrev pub is_undeclared : List ℕ → Option Entry → Bool
is_undeclared name e = not (is_some e) && not (is_unknown_kernel_name name)

-- U14: no type, though each operand has one
abbrev pub is_untyped : Facts → List (Option CType) → Bool
is_untyped f operands = not (is_some f.sense.type) && list_all is_some operands

-- U15: function value outside the subset -----------------------------------------------------------------------------

-- a function without a body that isn't called
abbrev pub is_outside_named : Told → Option Entry → Bool
is_outside_named k None = false
is_outside_named k (Some e) = is_outside k e

abbrev pub is_outside_value : Told → Facts → Option Entry → Bool
is_outside_value k f e = not (is_called f.role) && is_outside_named k e

-- a cast of a function pointer, or to one, but for its own type and for null pointer constants
abbrev pub changes_function : Bool → CType → Option CType → Bool
changes_function null to None = false
changes_function null to (Some t) =
    (is_function_pointer to || is_function_pointer t) && not (compatible to t) && not (null && is_function_pointer to)

abbrev pub changes_to : Bool → Option CType → Option CType → Bool
changes_to null None t = false
changes_to null (Some to) t = changes_function null to t

abbrev pub is_function_cast : Facts → Facts → Bool
is_function_cast f operand = changes_to operand.sense.null f.sense.type (value_type operand.sense)

-- U16: pointer to a function pointer ---------------------------------------------------------------------------------

abbrev pub points_to_function_pointer : CType → Bool
points_to_function_pointer (Pointer q t) = holds_function_pointers t
points_to_function_pointer (Array q t n) = points_to_function_pointer t
points_to_function_pointer _ = false

abbrev pub is_function_table : CType → Bool
is_function_table (Array q t n) = holds_function_pointers t
is_function_table _ = false

-- an array of function pointers is so only where it isn't under an index or in `sizeof`; in its own initialiser it
-- isn't an expression
abbrev pub is_too_deep : Bool → Option CType → Bool
is_too_deep whole None = false
is_too_deep whole (Some t) = points_to_function_pointer t || (is_function_table t && not whole)

-- U17: more than three operands of a call hold calls -----------------------------------------------------------------

abbrev pub calls_among : List Facts → ℕ
calls_among [] = 0
calls_among (f ∷ fs) = (if f.holds_call then 1 else 0) + calls_among fs

abbrev pub is_crowded : CallSight → Bool
is_crowded c = nat_lt 3 (calls_among (c.called ∷ c.arguments))

-- U18: outside function not named in the settings --------------------------------------------------------------------

abbrev pub takes_function : Parameters → Bool
takes_function NoParameters = false
takes_function (Parameter t ps) = is_function_pointer t || takes_function ps

abbrev pub takes_functions : Meaning → Bool
takes_functions (FunctionNamed (Some (Function q t ps more)) l d) = takes_function ps
takes_functions _ = false

-- a function without a body that is no kernel call
abbrev pub is_foreign : Told → Entry → Bool
is_foreign k e = is_outside k e && not (is_kernel_call e.name)

abbrev pub is_refused_call : Told → Entry → Bool
is_refused_call k e =
    is_foreign k e && (not (list_any (bytes_eq e.name) k.project.outside) || takes_functions e.meaning)

abbrev pub is_unnamed_call : Told → Facts → Option Entry → Bool
is_unnamed_call k f None = false
is_unnamed_call k f (Some e) = is_called f.role && is_refused_call k e

-- an argument of `...` that is a function
abbrev pub is_function_pointer_option : Option CType → Bool
is_function_pointer_option None = false
is_function_pointer_option (Some t) = is_function_pointer t

abbrev pub is_function_value : Facts → Bool
is_function_value f = is_function_pointer_option (value_type f.sense)

abbrev pub some_function_after : Parameters → List Facts → Bool
some_function_after NoParameters fs = list_any is_function_value fs
some_function_after (Parameter t ps) [] = false
some_function_after (Parameter t ps) (f ∷ fs) = some_function_after ps fs

abbrev pub passes_function : Meaning → List Facts → Bool
passes_function (FunctionNamed (Some (Function q t ps true)) l d) fs = some_function_after ps fs
passes_function _ fs = false

abbrev pub is_function_passed : Told → CallSight → Option Entry → Bool
is_function_passed k c None = false
is_function_passed k c (Some e) = is_foreign k e && passes_function e.meaning c.arguments

-- U26: the status pair -----------------------------------------------------------------------------------------------

abbrev pub is_elsewhere : StatusUse → Bool
is_elsewhere OfStatus = false
is_elsewhere _ = true

-- a status variable that is neither kept in nor restored from
abbrev pub is_stray_status : Told → Option Entry → StatusUse → Bool
is_stray_status k e used = keeps_status k e && is_elsewhere used

abbrev pub is_kept : Told → StatusUse → Bool
is_kept k (KeptBy e) = keeps_status k e
is_kept k _ = false

-- a status that no status variable keeps, or one that is restored from something else
abbrev pub is_stray_pair : Told → CallSight → Bool
is_stray_pair k c =
    (is_named c.function (codes "chSysGetStatusAndLockX") && not (is_kept k c.used))
    || (is_named c.function (codes "chSysRestoreStatusX") && not (keeps_status k c.named))
