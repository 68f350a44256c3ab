-- What an operator between two operands makes of their senses (C99 6.5.5 to 6.5.14, 6.5.17).
use Rattle.std.specs.Prelude.{Bool, false, ◌&&◌, ◌||◌, not, if◌then◌else◌}
use Rattle.ck_types.specs.Arithmetic.{result_type}
use Rattle.ck_types.specs.Types.{CType, Integer, Pointer, compatible}
use Rattle.ck_types.specs.declared.operators.BinaryOperator.{BinaryOperator}
use Rattle.ck_types.specs.declared.operators.BinaryOperator.TheVariants.{Add, Subtract, Less, Greater, LessOrEqual}
use Rattle.ck_types.specs.declared.operators.BinaryOperator.TheVariants.{GreaterOrEqual, Equal, NotEqual}
use Rattle.ck_prog.specs.ConstantExpressions.{binary_constancy, and_constancy, or_constancy}
use Rattle.ck_prog.specs.Declarations.{Place}
use Rattle.ck_prog.specs.Senses.{Constancy, Sense, no_type, value, value_if, integer, pointer, value_type, from_types}
use Rattle.ck_prog.specs.Senses.{is_fixed_value, is_known}
use Rattle.ck_prog.specs.Sizes.{is_complete}
use Rattle.ck_prog.specs.TypeClasses.{int, is_integer, is_pointer, is_scalar, is_function, is_void}
use Rattle.ck_prog.specs.declared.operators.Operator.{Operator}
use Rattle.ck_prog.specs.declared.operators.Operator.TheVariants.{Binary, And, Or, Comma}

-- a pointer to a complete type of objects
abbrev pub points_to_object : Place → CType → Bool
points_to_object p (Pointer q t) = is_complete p t
points_to_object p _ = false

-- 6.5.6: a pointer moved by so many elements; by a known number an address constant stays one (6.6)
abbrev pub moved : CType → Sense → Sense → Sense
moved t a n = pointer t (is_fixed_value a && is_known n.constancy)

-- 6.5.6
abbrev pub sum : Place → Sense → Sense → CType → CType → Sense
sum p a b t u =
    if points_to_object p t && is_integer u then moved t a b
    else if is_integer t && points_to_object p u then moved u b a
    else no_type

abbrev pub are_to_compatible : CType → CType → Bool
are_to_compatible (Pointer q t) (Pointer r u) = compatible t u
are_to_compatible _ _ = false

-- 6.5.6: the type of a difference of pointers is `int`
abbrev pub difference : Place → Sense → Sense → CType → CType → Sense
difference p a b t u =
    if points_to_object p t && is_integer u then moved t a b
    else value_if (points_to_object p t && points_to_object p u && are_to_compatible t u) int

-- 6.5.8: pointers to compatible types of objects, complete or not
abbrev pub are_ordered : CType → CType → Bool
are_ordered (Pointer q t) (Pointer r u) = compatible t u && not (is_function t)
are_ordered _ _ = false

-- 6.5.9, 6.3.2.3: `void` beside a type of objects, complete or not
abbrev pub are_void_and_object : CType → CType → Bool
are_void_and_object t u = (is_void t && not (is_function u)) || (is_void u && not (is_function t))

abbrev pub are_to_alike : CType → CType → Bool
are_to_alike (Pointer q t) (Pointer r u) = compatible t u || are_void_and_object t u
are_to_alike _ _ = false

-- 6.5.9: pointers to compatible types, one to `void`, or one beside a null pointer constant
abbrev pub are_equatable : Sense → Sense → CType → CType → Bool
are_equatable a b t u = (is_pointer t && b.null) || (is_pointer u && a.null) || are_to_alike t u

-- where one operand is a pointer
abbrev pub with_pointer : Place → BinaryOperator → Sense → Sense → CType → CType → Sense
with_pointer p Add a b t u = sum p a b t u
with_pointer p Subtract a b t u = difference p a b t u
with_pointer p Less a b t u = value_if (are_ordered t u) int
with_pointer p Greater a b t u = value_if (are_ordered t u) int
with_pointer p LessOrEqual a b t u = value_if (are_ordered t u) int
with_pointer p GreaterOrEqual a b t u = value_if (are_ordered t u) int
with_pointer p Equal a b t u = value_if (are_equatable a b t u) int
with_pointer p NotEqual a b t u = value_if (are_equatable a b t u) int
with_pointer p _ a b t u = no_type

-- 6.5.5 to 6.5.12: of two integers as ck_types says
abbrev pub by_types : Place → BinaryOperator → Sense → Sense → CType → CType → Sense
by_types p op a b (Integer t) (Integer u) =
    integer (Integer (result_type op t u)) (binary_constancy op t u a.constancy b.constancy)
by_types p op a b t u = with_pointer p op a b t u

-- 6.5.13, 6.5.14: of two integers a constant expression, where both are
abbrev pub truth_of : (Constancy → Constancy → Constancy) → Sense → Sense → CType → CType → Sense
truth_of make a b t u =
    if is_integer t && is_integer u then integer int (make a.constancy b.constancy)
    else value_if (is_scalar t && is_scalar u) int

abbrev pub binary_by : Place → Operator → Sense → Sense → CType → CType → Sense
binary_by p (Binary op) a b t u = by_types p op a b t u
binary_by p And a b t u = truth_of and_constancy a b t u
binary_by p Or a b t u = truth_of or_constancy a b t u
-- 6.5.17, 6.6: a comma makes no constant expression
binary_by p Comma a b t u = value u

abbrev pub binary_sense : Place → Operator → Sense → Sense → Sense
binary_sense p op a b = from_types (value_type a) (value_type b) (binary_by p op a b)
