-- Conversions as if by assignment, assignments and `? :` (C99 6.5.15, 6.5.16).
use Rattle.std.specs.Prelude.{Bool, false, ◌&&◌, ◌||◌, not, Option, Some, None, if◌then◌else◌}
use Rattle.ck_types.specs.IntegerTypes.{common}
use Rattle.ck_types.specs.Types.{CType, Void, Integer, Pointer, compatible, composite}
use Rattle.ck_types.specs.declared.operators.BinaryOperator.{BinaryOperator}
use Rattle.ck_types.specs.declared.operators.BinaryOperator.TheVariants.{Add, Subtract}
use Rattle.ck_prog.specs.BinarySenses.{points_to_object, are_void_and_object}
use Rattle.ck_prog.specs.ConstantExpressions.{cast_constancy, choice_constancy}
use Rattle.ck_prog.specs.Declarations.{Place}
use Rattle.ck_prog.specs.Senses.{Constancy, Sense, no_type, value_if, integer, pointer, value_type, from_type}
use Rattle.ck_prog.specs.Senses.{from_types, is_fixed_value, is_known, is_zero}
use Rattle.ck_prog.specs.Sizes.{is_complete, has_constant}
use Rattle.ck_prog.specs.TypeClasses.{both, are_among, is_integer, is_pointer, is_scalar, is_truth, is_void, is_array}
use Rattle.ck_prog.specs.TypeClasses.{is_same_struct}
use Rattle.ck_prog.specs.declared.operators.Assigning.{Assigning}
use Rattle.ck_prog.specs.declared.operators.Assigning.TheVariants.{Plain, With}

-- 6.5.16.1: what the left type points to has all qualifiers of what the right one points to, and is compatible with it,
-- or one of the two is `void`
abbrev pub takes_pointer : CType → CType → Bool
takes_pointer (Pointer q t) (Pointer r u) = are_among r q && (compatible t u || are_void_and_object t u)
takes_pointer _ _ = false

-- 6.5.16.1: an object of the first type takes a value of the second, which may be a null pointer constant
abbrev pub takes : CType → Bool → CType → Bool
takes to null t =
    (is_integer to && is_integer t)
    || is_same_struct to t
    || takes_pointer to t
    || (is_pointer to && null)
    || (is_truth to && is_pointer t)

abbrev pub takes_value : CType → Bool → Option CType → Bool
takes_value to null None = false
takes_value to null (Some t) = takes to null t

-- 6.5.16.1: the value may be assigned to an object of the type
abbrev pub is_assignable : CType → Sense → Bool
is_assignable to s = takes_value to s.null (value_type s)

-- 6.3.2.1: a modifiable lvalue
abbrev pub is_modifiable : Place → Sense → CType → Bool
is_modifiable p a t =
    a.lvalue && is_complete p t && not (is_array t) && not a.qualifiers.constant && not (has_constant p t)

-- 6.5.16.2: `+=` and `-=` move a pointer too; others take integers alone
abbrev pub takes_with : Place → BinaryOperator → CType → CType → Bool
takes_with p Add t u = (is_integer t || points_to_object p t) && is_integer u
takes_with p Subtract t u = (is_integer t || points_to_object p t) && is_integer u
takes_with p op t u = is_integer t && is_integer u

abbrev pub takes_by : Place → Assigning → CType → Bool → CType → Bool
takes_by p Plain to null t = takes to null t
takes_by p (With op) to null t = takes_with p op to t

-- 6.5.16: the value has the left type, without its qualifiers
abbrev pub assignment_sense : Place → Assigning → Sense → Sense → Sense
assignment_sense p op a b =
    from_types a.type (value_type b) (λ t u. value_if (is_modifiable p a t && takes_by p op t b.null u) t)

-- 6.5.15 --------------------------------------------------------------------------------------------------------------

-- pointers to compatible types, or one to `void`; what they point to has the qualifiers of both
abbrev pub common_pointer : CType → CType → Option CType
common_pointer (Pointer q t) (Pointer r u) =
    if compatible t u then Some (Pointer (both q r) (composite t u))
    else if are_void_and_object t u then Some (Pointer (both q r) Void)
    else None
common_pointer _ _ = None

abbrev pub common_type : Bool → Bool → CType → CType → Option CType
common_type a_null b_null (Integer t) (Integer u) = Some (Integer (common t u))
common_type a_null b_null t u =
    if (is_void t && is_void u) || is_same_struct t u then Some t
    else if is_pointer t && b_null then Some t
    else if is_pointer u && a_null then Some u
    else common_pointer t u

abbrev pub is_choice_fixed : Constancy → Sense → Sense → Bool
is_choice_fixed c a b = is_known c && (if is_zero c then is_fixed_value b else is_fixed_value a)

abbrev pub choice_of : Sense → Sense → Sense → CType → Sense
choice_of c a b (Integer t) =
    integer (Integer t) (cast_constancy t (choice_constancy c.constancy a.constancy b.constancy))
choice_of c a b t = pointer t (is_choice_fixed c.constancy a b)

abbrev pub choice_by : Sense → Sense → Sense → CType → CType → CType → Sense
choice_by c a b test t u =
    if is_scalar test then from_type (common_type a.null b.null t u) (choice_of c a b) else no_type

abbrev pub choice_sense : Sense → Sense → Sense → Sense
choice_sense c a b =
    from_type (value_type c) (λ test. from_types (value_type a) (value_type b) (choice_by c a b test))
