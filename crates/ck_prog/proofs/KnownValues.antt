-- A known value of an expression is one of its type.
use Rattle.std.proofs.Common.{◌≡◌, refl, subst, ℤ, pos, Result, Ok, Err}
use Rattle.std.specs.Prelude.{Bool, true, false, not, Option, Some, None, if◌then◌else◌}
use Rattle.ck_types.specs.Arithmetic.{binary, unary, typed, one_if, combined, changed, result_type, unary_type}
use Rattle.ck_types.specs.Arithmetic.{left_type, right_type}
use Rattle.ck_types.specs.IntegerTypes.{represents, converted, promoted}
use Rattle.ck_types.specs.Types.{CType, Void, Integer, Pointer, Array, Struct, Function}
use Rattle.ck_types.specs.declared.integer_types.IntegerType.{IntegerType}
use Rattle.ck_types.specs.declared.integer_types.IntegerType.TheVariants.{Int}
use Rattle.ck_types.specs.declared.operators.IntegerValue.{IntegerValue}
use Rattle.ck_types.specs.declared.operators.NoValue.{NoValue}
use Rattle.ck_types.specs.declared.operators.BinaryOperator.{BinaryOperator}
use Rattle.ck_types.specs.declared.operators.UnaryOperator.{UnaryOperator}
use Rattle.ck_types.proofs.Conversions.{converts_into_range}
use Rattle.ck_types.proofs.InRange.{binary-range, unary-range}
use Rattle.ck_prog.specs.ConstantExpressions.{where_known, where_both_known, outcome, binary_constancy}
use Rattle.ck_prog.specs.ConstantExpressions.{unary_constancy, cast_constancy, and_constancy, or_constancy}
use Rattle.ck_prog.specs.Laws.{is_in_range}
use Rattle.ck_prog.specs.Senses.{Sense, Constancy, Varying, Valueless, Known, is_zero, value_if, from_type, from_types}

-- an integer expression of a type: where it is known, the type represents its value
abbrev pub FitsAs : IntegerType → Constancy → Type 0
FitsAs t c = is_in_range (Some (Integer t)) c ≡ true

-- constant expressions ------------------------------------------------------------------------------------------------

pub fits_where_known : (t : IntegerType) (c : Constancy) (make : ℤ → Constancy) → ((x : ℤ) → FitsAs t (make x))
    → FitsAs t (where_known c make)
fits_where_known t Varying make h = refl
fits_where_known t Valueless make h = refl
fits_where_known t (Known x) make h = h x

fits_where_both_known : (t : IntegerType) (a b : Constancy) (make : ℤ → ℤ → Constancy)
    → ((x y : ℤ) → FitsAs t (make x y)) → FitsAs t (where_both_known a b make)
fits_where_both_known t Varying b make h = refl
fits_where_both_known t Valueless Varying make h = refl
fits_where_both_known t Valueless Valueless make h = refl
fits_where_both_known t Valueless (Known y) make h = refl
fits_where_both_known t (Known x) b make h = fits_where_known t b (make x) (h x)

truth_fits : (b : Bool) → FitsAs Int (Known (one_if b))
truth_fits true = refl
truth_fits false = refl

-- what an operator makes has the operator's type
typed_of : (t : IntegerType) (r : Result ℤ NoValue) (v : IntegerValue) → typed t r ≡ Ok v → v.of ≡ t
typed_of t (Ok z) v e = cc
typed_of t (Err why) v e = absurd (cc)

outcome_fits : (t : IntegerType) (r : Result IntegerValue NoValue)
    → ((v : IntegerValue) → r ≡ Ok v → represents t v.value ≡ true) → FitsAs t (outcome r)
outcome_fits t (Ok v) h = h v refl
outcome_fits t (Err why) h = refl

pub binary_fits : (op : BinaryOperator) (t u : IntegerType) (a b : Constancy)
    → FitsAs (result_type op t u) (binary_constancy op t u a b)
binary_fits op t u a b =
    fits_where_both_known (result_type op t u) a b
    (λ x y. outcome (binary op (record { of = t; value = x }) (record { of = u; value = y })))
    (λ x y. outcome_fits (result_type op t u) (binary op (record { of = t; value = x }) (record { of = u; value = y }))
    (λ v e. subst (λ of. represents of v.value ≡ true)
    (typed_of (result_type op t u)
    (combined op (left_type op t u) (converted (left_type op t u) x) (converted (right_type op t u) y)) v e)
    (binary-range op (record { of = t; value = x }) (record { of = u; value = y }) v e)))

pub unary_fits : (op : UnaryOperator) (t : IntegerType) (a : Constancy)
    → FitsAs (unary_type op t) (unary_constancy op t a)
unary_fits op t a =
    fits_where_known (unary_type op t) a (λ x. outcome (unary op (record { of = t; value = x })))
    (λ x. outcome_fits (unary_type op t) (unary op (record { of = t; value = x }))
    (λ v e. subst (λ of. represents of v.value ≡ true)
    (typed_of (unary_type op t) (changed op (promoted t) (converted (promoted t) x)) v e)
    (unary-range op (record { of = t; value = x }) v e)))

pub cast_fits : (t : IntegerType) (a : Constancy) → FitsAs t (cast_constancy t a)
cast_fits t a = fits_where_known t a (λ x. Known (converted t x)) (λ x. converts_into_range t x)

fits_either : (t : IntegerType) (b : Bool) (c d : Constancy) → FitsAs t c → FitsAs t d → FitsAs t (if b then c else d)
fits_either t true c d h k = h
fits_either t false c d h k = k

truth_fits_where_known : (c : Constancy) → FitsAs Int (where_known c (λ y. Known (one_if (not (is_zero (Known y))))))
truth_fits_where_known c =
    fits_where_known Int c (λ y. Known (one_if (not (is_zero (Known y))))) (λ y. truth_fits (not (is_zero (Known y))))

pub and_fits : (a b : Constancy) → FitsAs Int (and_constancy a b)
and_fits (Known x) Varying = refl
and_fits (Known x) Valueless = fits_either Int (is_zero (Known x)) (Known (pos 0)) Valueless refl refl
and_fits (Known x) (Known y) =
    fits_either Int (is_zero (Known x)) (Known (pos 0)) (Known (one_if (not (is_zero (Known y))))) refl
    (truth_fits (not (is_zero (Known y))))
and_fits Varying b = refl
and_fits Valueless Varying = refl
and_fits Valueless Valueless = refl
and_fits Valueless (Known y) = refl

pub or_fits : (a b : Constancy) → FitsAs Int (or_constancy a b)
or_fits (Known x) Varying = refl
or_fits (Known x) Valueless = fits_either Int (is_zero (Known x)) Valueless (Known (pos 1)) refl refl
or_fits (Known x) (Known y) =
    fits_either Int (is_zero (Known x)) (Known (one_if (not (is_zero (Known y))))) (Known (pos 1))
    (truth_fits (not (is_zero (Known y)))) refl
or_fits Varying b = refl
or_fits Valueless Varying = refl
or_fits Valueless Valueless = refl
or_fits Valueless (Known y) = refl

-- operators -----------------------------------------------------------------------------------------------------------

abbrev pub Fits : Sense → Type 0
Fits s = is_in_range s.type s.constancy ≡ true

pub varying_fits : (t : Option CType) → is_in_range t Varying ≡ true
varying_fits None = refl
varying_fits (Some Void) = refl
varying_fits (Some (Integer t)) = refl
varying_fits (Some (Pointer q t)) = refl
varying_fits (Some (Array q t n)) = refl
varying_fits (Some (Struct s)) = refl
varying_fits (Some (Function q t ps more)) = refl

pub value_if_fits : (b : Bool) (t : CType) → Fits (value_if b t)
value_if_fits true t = varying_fits (Some t)
value_if_fits false t = refl

pub from_type_fits : (t : Option CType) (make : CType → Sense) → ((t : CType) → Fits (make t)) → Fits (from_type t make)
from_type_fits None make h = refl
from_type_fits (Some t) make h = h t

pub from_types_fits : (t u : Option CType) (make : CType → CType → Sense) → ((t u : CType) → Fits (make t u))
    → Fits (from_types t u make)
from_types_fits None u make h = refl
from_types_fits (Some t) None make h = refl
from_types_fits (Some t) (Some u) make h = h t u

pub fits_if : (b : Bool) (s r : Sense) → Fits s → Fits r → Fits (if b then s else r)
fits_if true s r h k = h
fits_if false s r h k = k
