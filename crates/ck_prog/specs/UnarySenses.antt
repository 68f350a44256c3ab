-- What an operator before its operand makes of the operand's sense, and a cast (C99 6.5.3, 6.5.4).
use Rattle.std.specs.Prelude.{Bool, false, ◌&&◌, ◌||◌, not, Option, Some, None, if◌then◌else◌, pos}
use Rattle.ck_types.specs.Arithmetic.{unary_type}
use Rattle.ck_types.specs.Types.{CType, Integer, Pointer}
use Rattle.ck_types.specs.declared.operators.UnaryOperator.{UnaryOperator}
use Rattle.ck_types.specs.declared.operators.UnaryOperator.TheVariants.{Not}
use Rattle.ck_prog.specs.AssignmentSenses.{is_modifiable}
use Rattle.ck_prog.specs.BinarySenses.{points_to_object}
use Rattle.ck_prog.specs.ConstantExpressions.{unary_constancy, cast_constancy}
use Rattle.ck_prog.specs.Declarations.{Layout, Place}
use Rattle.ck_prog.specs.Senses.{Constancy, Varying, Known, Sense, no_type, value_if, integer, pointer, value_type}
use Rattle.ck_prog.specs.Senses.{from_type}
use Rattle.ck_prog.specs.Senses.{is_fixed_value, is_known, is_zero}
use Rattle.ck_prog.specs.Sizes.{layout, if_small}
use Rattle.ck_prog.specs.TypeClasses.{int, size_type, is_integer, is_pointer, is_scalar, is_function, is_void}
use Rattle.ck_prog.specs.declared.operators.Prefix.{Prefix}
use Rattle.ck_prog.specs.declared.operators.Prefix.TheVariants.{Unary, Increment, Decrement, Address, Dereference}
use Rattle.ck_prog.specs.declared.operators.Prefix.TheVariants.{SizeOf}

-- 6.5.3.3: of an integer as ck_types says; `!` of a pointer is an `int`
abbrev pub unary_by : UnaryOperator → Sense → CType → Sense
unary_by op a (Integer t) = integer (Integer (unary_type op t)) (unary_constancy op t a.constancy)
unary_by Not a t = value_if (is_pointer t) int
unary_by _ a t = no_type

-- 6.5.3.2: what a pointer points to: an lvalue where it is an object, complete or not
abbrev pub target : Bool → CType → Sense
target fixed (Pointer q t) =
    record (pointer t fixed) { qualifiers = q; lvalue = not (is_function t) && not (is_void t) }
target fixed _ = no_type

abbrev pub dereference : Sense → Sense
dereference a = from_type (value_type a) (target (is_fixed_value a))

-- 6.5.3.2: of a function, of an lvalue that is no register, or of what `*` gives, which `&` undoes
abbrev pub address : Bool → Sense → CType → Sense
address of_star a t =
    if is_function t || (a.lvalue && not a.register) || of_star then pointer (Pointer a.qualifiers t) a.fixed
    else no_type

-- 6.5.2.4, 6.5.3.1: `++` and `--`, before and after their operand
abbrev pub step_by : Place → Sense → CType → Sense
step_by p a t = value_if (is_modifiable p a t && (is_integer t || points_to_object p t)) t

abbrev pub step : Place → Sense → Sense
step p a = from_type a.type (step_by p a)

-- 6.5.3.4: a function, an incomplete type and one that is too large have no size
abbrev pub size_of_layout : Option Layout → Sense
size_of_layout None = no_type
size_of_layout (Some l) = integer size_type (Known (pos l.size))

abbrev pub size_of : Place → Option CType → Sense
size_of p t = from_type t (λ t. size_of_layout (if_small (layout p t)))

-- an operator before its operand, which may be a `*` and its operand
abbrev pub prefix_sense : Place → Bool → Prefix → Sense → Sense
prefix_sense p of_star (Unary op) a = from_type (value_type a) (unary_by op a)
prefix_sense p of_star Increment a = step p a
prefix_sense p of_star Decrement a = step p a
prefix_sense p of_star Address a = from_type a.type (address of_star a)
prefix_sense p of_star Dereference a = dereference a
prefix_sense p of_star SizeOf a = size_of p a.type

-- 6.5.4 ---------------------------------------------------------------------------------------------------------------

-- 6.6: a cast of an integer to an integer type is a constant expression where its operand is
abbrev pub constancy_as : CType → CType → Constancy → Constancy
constancy_as (Integer t) (Integer u) c = cast_constancy t c
constancy_as _ _ c = Varying

abbrev pub is_void_pointer : CType → Bool
is_void_pointer (Pointer q t) = is_void t && not q.constant && not q.volatile
is_void_pointer _ = false

-- 6.3.2.3: 0 cast to `void *` is a null pointer constant
abbrev pub is_null_as : CType → Sense → Constancy → Bool
is_null_as to a c = is_zero c || (is_void_pointer to && is_zero a.constancy)

-- 6.6: an address constant stays one as a pointer
abbrev pub is_fixed_as : CType → Sense → Constancy → Bool
is_fixed_as to a c = is_known c || (is_pointer to && is_fixed_value a)

abbrev pub cast_of : CType → Sense → Constancy → Sense
cast_of to a c = record (pointer to (is_fixed_as to a c)) { constancy = c; null = is_null_as to a c }

-- 6.5.4: to `void`, or of a scalar to a scalar type
abbrev pub cast_by : CType → Sense → CType → Sense
cast_by to a t =
    if is_void to || (is_scalar to && is_scalar t) then cast_of to a (constancy_as to t a.constancy) else no_type

abbrev pub cast_sense : Option CType → Sense → Sense
cast_sense to a = from_type to (λ to. from_type (value_type a) (cast_by to a))
