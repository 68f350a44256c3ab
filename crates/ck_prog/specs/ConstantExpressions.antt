-- What operators make of integer constant expressions (C99 6.6). Each operand has to be one, also where it isn't
-- evaluated.
use Rattle.std.specs.Prelude.{not, Result, Ok, Err, if◌then◌else◌, ℤ, pos}
use Rattle.ck_types.specs.Arithmetic.{binary, unary, one_if}
use Rattle.ck_types.specs.IntegerTypes.{converted}
use Rattle.ck_types.specs.declared.integer_types.IntegerType.{IntegerType}
use Rattle.ck_types.specs.declared.operators.BinaryOperator.{BinaryOperator}
use Rattle.ck_types.specs.declared.operators.UnaryOperator.{UnaryOperator}
use Rattle.ck_types.specs.declared.operators.NoValue.{NoValue}
use Rattle.ck_types.specs.declared.operators.IntegerValue.{IntegerValue}
use Rattle.ck_prog.specs.Senses.{Constancy, Varying, Valueless, Known, is_zero}

abbrev pub where_known : Constancy → (ℤ → Constancy) → Constancy
where_known (Known v) make = make v
where_known c make = c

-- both are constant expressions, and where both have a value, so much is made of them
abbrev pub where_both_known : Constancy → Constancy → (ℤ → ℤ → Constancy) → Constancy
where_both_known Varying b make = Varying
where_both_known Valueless Varying make = Varying
where_both_known Valueless b make = Valueless
where_both_known (Known x) b make = where_known b (make x)

-- 6.5: an operation that is undefined has no value
abbrev pub outcome : Result IntegerValue NoValue → Constancy
outcome (Ok v) = Known v.value
outcome (Err why) = Valueless

abbrev pub binary_constancy : BinaryOperator → IntegerType → IntegerType → Constancy → Constancy → Constancy
binary_constancy op t u a b =
    where_both_known a b (λ x y. outcome (binary op (record { of = t; value = x }) (record { of = u; value = y })))

abbrev pub unary_constancy : UnaryOperator → IntegerType → Constancy → Constancy
unary_constancy op t a = where_known a (λ x. outcome (unary op (record { of = t; value = x })))

abbrev pub cast_constancy : IntegerType → Constancy → Constancy
cast_constancy t a = where_known a (λ x. Known (converted t x))

-- 6.5.13: where the first operand is 0, the second isn't evaluated
abbrev pub and_constancy : Constancy → Constancy → Constancy
and_constancy (Known x) Varying = Varying
and_constancy (Known x) b =
    if is_zero (Known x) then Known (pos 0) else where_known b (λ y. Known (one_if (not (is_zero (Known y)))))
and_constancy a b = where_both_known a b (λ x y. Varying)

-- 6.5.14: where the first operand isn't 0, the second isn't evaluated
abbrev pub or_constancy : Constancy → Constancy → Constancy
or_constancy (Known x) Varying = Varying
or_constancy (Known x) b =
    if is_zero (Known x) then where_known b (λ y. Known (one_if (not (is_zero (Known y))))) else Known (pos 1)
or_constancy a b = where_both_known a b (λ x y. Varying)

-- 6.5.15: one of the second and the third operand isn't evaluated
abbrev pub choice_constancy : Constancy → Constancy → Constancy → Constancy
choice_constancy Varying a b = Varying
choice_constancy c Varying b = Varying
choice_constancy c a Varying = Varying
choice_constancy Valueless a b = Valueless
choice_constancy c a b = if is_zero c then b else a
