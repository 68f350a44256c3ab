-- The common type of two operands, by its parts.
use Rattle.std.proofs.Common.{◌≡◌, true, false, Bool, ap, refl, sym, ◌∙◌}
use Rattle.std.specs.Prelude.{Option, Some, None, if◌then◌else◌}
use Rattle.std.specs.Option.{option_map}
use Rattle.ck_conversions.specs.Common.{common_integer, common_other, common_target, composite_type}
use Rattle.ck_conversions.specs.Parts.{integer_in, pointed}
use Rattle.ck_prog.specs.AssignmentSenses.{common_pointer, common_type}
use Rattle.ck_prog.specs.BinarySenses.{are_void_and_object}
use Rattle.ck_prog.specs.TypeClasses.{Qualified, both}
use Rattle.ck_types.specs.IntegerTypes.{common}
use Rattle.ck_types.specs.Types.{CType, Integer, Pointer, Qualifiers, Void, compatible, composite}
use Rattle.ck_types.specs.declared.integer_types.IntegerType.{IntegerType}

abbrev pub two_by : Option IntegerType → Option IntegerType → Option IntegerType
two_by (Some i) (Some j) = Some (common i j)
two_by _ _ = None

two_common : (t u : CType) → common_integer t u ≡ two_by (integer_in t) (integer_in u)
two_common (Integer t) (Integer u) = refl
two_common _ _ = refl

pub of_two : (t u : CType) (i j k : IntegerType) → Some i ≡ integer_in t → Some j ≡ integer_in u → k ≡ common i j
    → Some k ≡ common_integer t u
of_two t u i j k e g h =
    ap Some h ∙ ap (two_by (Some i)) g ∙ ap (λ o. two_by o (integer_in u)) e ∙ sym (two_common t u)

pub of_integers : (a_null b_null : Bool) (t u : CType) (i : IntegerType) → Some i ≡ common_integer t u
    → Some (Integer i) ≡ common_type a_null b_null t u
of_integers a_null b_null (Integer t) (Integer u) i e = ap (option_map Integer) e
of_integers a_null b_null _ _ i e = absurd (cc)

pub of_others : (a_null b_null : Bool) (t u : CType) → None ≡ common_integer t u
    → common_other a_null b_null t u ≡ common_type a_null b_null t u
of_others a_null b_null (Integer t) (Integer u) e = absurd (cc)
of_others a_null b_null _ _ e = refl

-- the pointer to what two pointers have in common
abbrev pub pointer_by : Option Qualified → Option Qualified → Option CType
pointer_by (Some q) (Some r) = option_map (Pointer (both q.qualifiers r.qualifiers)) (common_target q.type r.type)
pointer_by _ _ = None

to_either : (q : Qualifiers) (joint object : Bool) (t u : CType)
    → (if joint then Some (Pointer q t) else if object then Some (Pointer q u) else None)
    ≡ option_map (Pointer q) (if joint then Some t else if object then Some u else None)
to_either q true object t u = refl
to_either q false true t u = refl
to_either q false false t u = refl

pub common_by : (t u : CType) → common_pointer t u ≡ pointer_by (pointed t) (pointed u)
common_by (Pointer q t) (Pointer r u) =
    to_either (both q r) (compatible t u) (are_void_and_object t u) (composite t u) Void
common_by _ _ = refl

pub first_is_none : (t u : CType) → None ≡ pointed t → None ≡ common_pointer t u
first_is_none (Pointer q t) u e = absurd (cc)
first_is_none _ u e = refl

pub second_is_none : (t u : CType) → None ≡ pointed u → None ≡ common_pointer t u
second_is_none (Pointer q t) (Pointer r u) e = absurd (cc)
second_is_none (Pointer q t) _ e = refl
second_is_none _ u e = refl

pub of_pointers : (t u : CType) (one other : Qualified) (target : Option CType) → Some one ≡ pointed t
    → Some other ≡ pointed u → target ≡ common_target one.type other.type
    → option_map (Pointer (both one.qualifiers other.qualifiers)) target ≡ common_pointer t u
of_pointers t u one other target e g h =
    ap (option_map (Pointer (both one.qualifiers other.qualifiers))) h
    ∙ ap (pointer_by (Some one)) g ∙ ap (λ o. pointer_by o (pointed u)) e ∙ sym (common_by t u)

joint_by : (joint object : Bool) (made t u : CType) → Some made ≡ (if joint then Some t else None)
    → Some made ≡ (if joint then Some t else if object then Some u else None)
joint_by true object made t u e = e
joint_by false object made t u e = absurd (cc)

apart_by : (joint object : Bool) (t u : CType) → None ≡ (if joint then Some t else None)
    → (if object then Some u else None) ≡ (if joint then Some t else if object then Some u else None)
apart_by true object t u e = absurd (cc)
apart_by false object t u e = refl

pub of_joint : (t u made : CType) → Some made ≡ composite_type t u → Some made ≡ common_target t u
of_joint t u made e = joint_by (compatible t u) (are_void_and_object t u) made (composite t u) Void e

pub of_apart : (t u : CType) (object : Bool) → object ≡ are_void_and_object t u → None ≡ composite_type t u
    → (if object then Some Void else None) ≡ common_target t u
of_apart t u object is e =
    ap (λ o. if o then Some Void else None) is
    ∙ apart_by (compatible t u) (are_void_and_object t u) (composite t u) Void e

pub ruleset commons = (of_integers, of_others, first_is_none, second_is_none, of_pointers, of_joint, of_apart)
