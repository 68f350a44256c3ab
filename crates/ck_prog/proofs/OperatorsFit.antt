-- What an operator makes is known only where its type is an integer type that represents the value.
use Rattle.std.proofs.Common.{◌≡◌, ℕ, List, refl, arith}
use Rattle.std.specs.Prelude.{Bool, true, false, ◌&&◌, ◌||◌, not, Option, Some, None, if◌then◌else◌}
use Rattle.ck_types.specs.Types.{CType, Integer, Pointer, Function}
use Rattle.ck_types.specs.declared.operators.BinaryOperator.{BinaryOperator}
use Rattle.ck_types.specs.declared.operators.BinaryOperator.TheVariants as binaries
use Rattle.ck_types.specs.declared.operators.UnaryOperator.{UnaryOperator}
use Rattle.ck_types.specs.declared.operators.UnaryOperator.TheVariants.{Not}
use Rattle.ck_prog.proofs.KnownValues.{Fits, binary_fits, unary_fits, cast_fits, and_fits, or_fits, varying_fits}
use Rattle.ck_prog.proofs.KnownValues.{value_if_fits, from_type_fits, from_types_fits, fits_if}
use Rattle.ck_prog.specs.AssignmentSenses.{choice_of, choice_by, choice_sense, common_type, assignment_sense}
use Rattle.ck_prog.specs.AssignmentSenses.{is_modifiable, takes_by}
use Rattle.ck_prog.specs.BinarySenses.{points_to_object, moved, sum, difference, are_to_compatible, are_ordered}
use Rattle.ck_prog.specs.BinarySenses.{are_equatable, with_pointer, by_types, binary_by, binary_sense}
use Rattle.ck_prog.specs.ConstantExpressions.{choice_constancy, and_constancy, or_constancy}
use Rattle.ck_prog.specs.Declarations.{Layout, MemberOf, Place}
use Rattle.ck_prog.specs.Laws.{is_in_range}
use Rattle.ck_prog.specs.PostfixSenses.{element_by, element, are_arguments, result_by, result, member_sense, access}
use Rattle.ck_prog.specs.PostfixSenses.{accessed, member, member_of}
use Rattle.ck_prog.specs.Senses.{Sense, Constancy, no_type, value_if, integer, value_type, is_fixed_value}
use Rattle.ck_prog.specs.Senses.{is_known, pointer, from_type, from_types}
use Rattle.ck_prog.specs.Sizes.{is_complete, is_small, if_small, layout}
use Rattle.ck_prog.specs.TypeClasses.{Qualified, qualified, int, is_integer, is_pointer, is_scalar, is_void}
use Rattle.ck_prog.specs.TypeClasses.{is_function}
use Rattle.ck_prog.specs.UnarySenses.{unary_by, target, address, step_by, step, size_of_layout, size_of, prefix_sense}
use Rattle.ck_prog.specs.UnarySenses.{constancy_as, cast_of, cast_by, cast_sense}
use Rattle.ck_prog.specs.declared.operators.Operator.{Operator}
use Rattle.ck_prog.specs.declared.operators.Operator.TheVariants.{Binary, And, Or, Comma}
use Rattle.ck_prog.specs.declared.operators.Prefix.{Prefix}
use Rattle.ck_prog.specs.declared.operators.Prefix.TheVariants.{Unary, Increment, Decrement, Address, Dereference}
use Rattle.ck_prog.specs.declared.operators.Prefix.TheVariants.{SizeOf}
use Rattle.ck_prog.specs.declared.operators.Assigning.{Assigning}

-- 6.5.5 to 6.5.14, 6.5.17 ---------------------------------------------------------------------------------------------

sum_fits : (p : Place) (a b : Sense) (t u : CType) → Fits (sum p a b t u)
sum_fits p a b t u =
    fits_if (points_to_object p t && is_integer u) (moved t a b)
    (if is_integer t && points_to_object p u then moved u b a else no_type) (varying_fits (Some t))
    (fits_if (is_integer t && points_to_object p u) (moved u b a) no_type (varying_fits (Some u)) refl)

difference_fits : (p : Place) (a b : Sense) (t u : CType) → Fits (difference p a b t u)
difference_fits p a b t u =
    let both = points_to_object p t && points_to_object p u && are_to_compatible t u in
    fits_if (points_to_object p t && is_integer u) (moved t a b) (value_if both int) (varying_fits (Some t))
    (value_if_fits both int)

with_pointer_fits : (p : Place) (op : BinaryOperator) (a b : Sense) (t u : CType) → Fits (with_pointer p op a b t u)
with_pointer_fits p binaries.Add a b t u = sum_fits p a b t u
with_pointer_fits p binaries.Subtract a b t u = difference_fits p a b t u
with_pointer_fits p binaries.Less a b t u = value_if_fits (are_ordered t u) int
with_pointer_fits p binaries.Greater a b t u = value_if_fits (are_ordered t u) int
with_pointer_fits p binaries.LessOrEqual a b t u = value_if_fits (are_ordered t u) int
with_pointer_fits p binaries.GreaterOrEqual a b t u = value_if_fits (are_ordered t u) int
with_pointer_fits p binaries.Equal a b t u = value_if_fits (are_equatable a b t u) int
with_pointer_fits p binaries.NotEqual a b t u = value_if_fits (are_equatable a b t u) int
with_pointer_fits p _ a b t u = refl

by_types_fits : (p : Place) (op : BinaryOperator) (a b : Sense) (t u : CType) → Fits (by_types p op a b t u)
by_types_fits p op a b (Integer t) (Integer u) = binary_fits op t u a.constancy b.constancy
by_types_fits p op a b t u = with_pointer_fits p op a b t u

binary_by_fits : (p : Place) (op : Operator) (a b : Sense) (t u : CType) → Fits (binary_by p op a b t u)
binary_by_fits p (Binary op) a b t u = by_types_fits p op a b t u
binary_by_fits p And a b t u =
    fits_if (is_integer t && is_integer u) (integer int (and_constancy a.constancy b.constancy))
    (value_if (is_scalar t && is_scalar u) int) (and_fits a.constancy b.constancy)
    (value_if_fits (is_scalar t && is_scalar u) int)
binary_by_fits p Or a b t u =
    fits_if (is_integer t && is_integer u) (integer int (or_constancy a.constancy b.constancy))
    (value_if (is_scalar t && is_scalar u) int) (or_fits a.constancy b.constancy)
    (value_if_fits (is_scalar t && is_scalar u) int)
binary_by_fits p Comma a b t u = varying_fits (Some u)

pub binary_sense_fits : (p : Place) (op : Operator) (a b : Sense) → Fits (binary_sense p op a b)
binary_sense_fits p op a b =
    from_types_fits (value_type a) (value_type b) (binary_by p op a b) (binary_by_fits p op a b)

-- 6.5.3, 6.5.4 --------------------------------------------------------------------------------------------------------

unary_by_fits : (op : UnaryOperator) (a : Sense) (t : CType) → Fits (unary_by op a t)
unary_by_fits op a (Integer t) = unary_fits op t a.constancy
unary_by_fits Not a t = value_if_fits (is_pointer t) int
unary_by_fits _ a t = refl

target_fits : (fixed : Bool) (t : CType) → Fits (target fixed t)
target_fits fixed (Pointer q t) = varying_fits (Some t)
target_fits fixed _ = refl

address_fits : (of_star : Bool) (a : Sense) (t : CType) → Fits (address of_star a t)
address_fits of_star a t =
    fits_if (is_function t || (a.lvalue && not a.register) || of_star) (pointer (Pointer a.qualifiers t) a.fixed)
    no_type refl refl

pub step_fits : (p : Place) (a : Sense) → Fits (step p a)
step_fits p a =
    from_type_fits a.type (step_by p a)
    (λ t. value_if_fits (is_modifiable p a t && (is_integer t || points_to_object p t)) t)

small_fits : (l : Layout) (b : Bool) → is_small (Some l) ≡ b → Fits (size_of_layout (if b then Some l else None))
small_fits l true h = grind (arith, h)
small_fits l false h = refl

size_fits : (l : Option Layout) → Fits (size_of_layout (if_small l))
size_fits None = refl
size_fits (Some l) = small_fits l (is_small (Some l)) refl

pub size_of_fits : (p : Place) (t : Option CType) → Fits (size_of p t)
size_of_fits p t = from_type_fits t (λ t. size_of_layout (if_small (layout p t))) (λ t. size_fits (layout p t))

pub prefix_sense_fits : (p : Place) (of_star : Bool) (op : Prefix) (a : Sense) → Fits (prefix_sense p of_star op a)
prefix_sense_fits p of_star (Unary op) a = from_type_fits (value_type a) (unary_by op a) (unary_by_fits op a)
prefix_sense_fits p of_star Increment a = step_fits p a
prefix_sense_fits p of_star Decrement a = step_fits p a
prefix_sense_fits p of_star Address a = from_type_fits a.type (address of_star a) (address_fits of_star a)
prefix_sense_fits p of_star Dereference a =
    from_type_fits (value_type a) (target (is_fixed_value a)) (target_fits (is_fixed_value a))
prefix_sense_fits p of_star SizeOf a = size_of_fits p a.type

constancy_as_fits : (to t : CType) (c : Constancy) → is_in_range (Some to) (constancy_as to t c) ≡ true
constancy_as_fits (Integer t) (Integer u) c = cast_fits t c
constancy_as_fits to t c = varying_fits (Some to)

cast_by_fits : (to : CType) (a : Sense) (t : CType) → Fits (cast_by to a t)
cast_by_fits to a t =
    fits_if (is_void to || (is_scalar to && is_scalar t)) (cast_of to a (constancy_as to t a.constancy)) no_type
    (constancy_as_fits to t a.constancy) refl

pub cast_sense_fits : (to : Option CType) (a : Sense) → Fits (cast_sense to a)
cast_sense_fits to a =
    from_type_fits to (λ to. from_type (value_type a) (cast_by to a))
    (λ to. from_type_fits (value_type a) (cast_by to a) (cast_by_fits to a))

-- 6.5.15, 6.5.16 ------------------------------------------------------------------------------------------------------

choice_of_fits : (c a b : Sense) (t : CType) → Fits (choice_of c a b t)
choice_of_fits c a b (Integer t) = cast_fits t (choice_constancy c.constancy a.constancy b.constancy)
choice_of_fits c a b t = varying_fits (Some t)

choice_by_fits : (c a b : Sense) (test t u : CType) → Fits (choice_by c a b test t u)
choice_by_fits c a b test t u =
    let common = common_type a.null b.null t u in
    fits_if (is_scalar test) (from_type common (choice_of c a b)) no_type
    (from_type_fits common (choice_of c a b) (choice_of_fits c a b)) refl

pub choice_sense_fits : (c a b : Sense) → Fits (choice_sense c a b)
choice_sense_fits c a b =
    from_type_fits (value_type c) (λ test. from_types (value_type a) (value_type b) (choice_by c a b test))
    (λ test. from_types_fits (value_type a) (value_type b) (choice_by c a b test) (choice_by_fits c a b test))

pub assignment_sense_fits : (p : Place) (op : Assigning) (a b : Sense) → Fits (assignment_sense p op a b)
assignment_sense_fits p op a b =
    from_types_fits a.type (value_type b) (λ t u. value_if (is_modifiable p a t && takes_by p op t b.null u) t)
    (λ t u. value_if_fits (is_modifiable p a t && takes_by p op t b.null u) t)

-- 6.5.2 ---------------------------------------------------------------------------------------------------------------

element_by_fits : (p : Place) (a b : Sense) (t u : CType) → Fits (element_by p a b t u)
element_by_fits p a b t u =
    let first = target (is_fixed_value a && is_known b.constancy) t in
    let second = target (is_fixed_value b && is_known a.constancy) u in
    let is_second = is_integer t && points_to_object p u in
    fits_if (points_to_object p t && is_integer u) first (if is_second then second else no_type)
    (target_fits (is_fixed_value a && is_known b.constancy) t)
    (fits_if is_second second no_type (target_fits (is_fixed_value b && is_known a.constancy) u) refl)

pub element_fits : (p : Place) (a b : Sense) → Fits (element p a b)
element_fits p a b = from_types_fits (value_type a) (value_type b) (element_by p a b) (element_by_fits p a b)

result_by_fits : (p : Place) (arguments : List Sense) (t : CType) → Fits (result_by p arguments t)
result_by_fits p arguments (Pointer q (Function r t ps more)) =
    value_if_fits (are_arguments p ps more arguments && (is_void t || is_complete p t)) t
result_by_fits p arguments _ = refl

pub result_fits : (p : Place) (called : Sense) (arguments : List Sense) → Fits (result p called arguments)
result_fits p called arguments =
    from_type_fits (value_type called) (result_by p arguments) (result_by_fits p arguments)

member_of_fits : (a : Sense) (t : Option Qualified) → Fits (member_of a t)
member_of_fits a None = refl
member_of_fits a (Some t) = varying_fits (Some (qualified a.qualifiers t).type)

member_sense_fits : (a : Sense) (m : Option MemberOf) → Fits (member_sense a m)
member_sense_fits a None = refl
member_sense_fits a (Some m) = member_of_fits a m.type

pub access_fits : (p : Place) (is_dot : Bool) (a : Sense) (name : List ℕ) → Fits (access p is_dot a name)
access_fits p is_dot a name = member_sense_fits (accessed is_dot a) (member p is_dot a name)
