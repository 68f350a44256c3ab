-- What suffixes make of the senses before them (C99 6.5.2).
use Rattle.std.specs.Prelude.{ℕ, Bool, true, false, ◌&&◌, ◌||◌, not, List, [], ◌∷◌, Option, Some, None}
use Rattle.std.specs.Prelude.{if◌then◌else◌}
use Rattle.ck_types.specs.Types.{CType, Pointer, Struct, Function, Parameters}
use Rattle.ck_types.specs.Types.{NoParameters, Parameter}
use Rattle.ck_prog.specs.AssignmentSenses.{is_assignable}
use Rattle.ck_prog.specs.BinarySenses.{points_to_object}
use Rattle.ck_prog.specs.Declarations.{MemberOf, Meaning, Member, Place}
use Rattle.ck_prog.specs.Senses.{Sense, no_type, value_if, pointer, value_type, from_type, from_types}
use Rattle.ck_prog.specs.Senses.{is_fixed_value, is_known}
use Rattle.ck_prog.specs.Sizes.{is_complete, member_named}
use Rattle.ck_prog.specs.TypeClasses.{Qualified, qualified, is_integer, is_void, is_array}
use Rattle.ck_prog.specs.UnarySenses.{target, dereference}

-- 6.5.2.1: one of the two points to objects, and the other is an integer
abbrev pub element_by : Place → Sense → Sense → CType → CType → Sense
element_by p a b t u =
    if points_to_object p t && is_integer u then target (is_fixed_value a && is_known b.constancy) t
    else if is_integer t && points_to_object p u then target (is_fixed_value b && is_known a.constancy) u
    else no_type

-- 6.7.1: an element of a register array is a part of it
abbrev pub is_register_array : Option CType → Sense → Bool
is_register_array None s = false
is_register_array (Some t) s = is_array t && s.register

abbrev pub element : Place → Sense → Sense → Sense
element p a b =
    record (from_types (value_type a) (value_type b) (element_by p a b))
    { register = is_register_array a.type a || is_register_array b.type b }

-- 6.5.2.2: a value of a type other than `void`
abbrev pub is_value : Option CType → Bool
is_value None = false
is_value (Some t) = not (is_void t)

-- 6.5.2.2: each argument may be assigned to an object of its parameter's type; there are more arguments only after
-- `...`
abbrev pub are_arguments : Place → Parameters → Bool → List Sense → Bool
are_arguments p NoParameters more [] = true
are_arguments p NoParameters more (s ∷ ss) = more && is_value (value_type s) && are_arguments p NoParameters more ss
are_arguments p (Parameter t ps) more [] = false
are_arguments p (Parameter t ps) more (s ∷ ss) =
    is_complete p t && is_assignable t s && are_arguments p ps more ss

-- 6.5.2.2: the result is of type `void` or of a complete type
abbrev pub result_by : Place → List Sense → CType → Sense
result_by p arguments (Pointer q (Function r t ps more)) =
    value_if (are_arguments p ps more arguments && (is_void t || is_complete p t)) t
result_by p arguments _ = no_type

abbrev pub result : Place → Sense → List Sense → Sense
result p called arguments = from_type (value_type called) (result_by p arguments)

-- 6.5.2.3: a member has the qualifiers of its struct too, and is an lvalue where the struct is
abbrev pub member_of : Sense → Option Qualified → Sense
member_of a None = no_type
member_of a (Some m) =
    let m = qualified a.qualifiers m in
    record (pointer m.type a.fixed) { qualifiers = m.qualifiers; lvalue = a.lvalue; register = a.register }

abbrev pub member_sense : Sense → Option MemberOf → Sense
member_sense a None = no_type
member_sense a (Some m) = member_of a m.type

abbrev pub found_member : Option Meaning → Option MemberOf
found_member (Some (Member m)) = Some m
found_member _ = None

-- 6.5.2.3: the member of a name of a complete struct
abbrev pub member_in : Place → Option CType → List ℕ → Option MemberOf
member_in p (Some (Struct s)) name =
    if is_complete p (Struct s) then found_member (member_named p s name) else None
member_in p _ name = None

-- the struct of which `.` or `->` takes a member
abbrev pub accessed : Bool → Sense → Sense
accessed is_dot a = if is_dot then a else dereference a

abbrev pub member : Place → Bool → Sense → List ℕ → Option MemberOf
member p is_dot a name = member_in p (accessed is_dot a).type name

abbrev pub access : Place → Bool → Sense → List ℕ → Sense
access p is_dot a name = member_sense (accessed is_dot a) (member p is_dot a name)
