-- The plain constancy that a constant stands for (C99 6.6).
use Rattle.std.specs.Prelude.{not}
use Rattle.ck_types.specs.Arithmetic.{one_if}
use Rattle.ck_prog.specs.ConstantExpressions.{where_known}
use Rattle.ck_prog.specs.Senses.{Constancy, is_zero}
use Rattle.ck_prog.specs.Senses as senses
use Rattle.ck_folding.specs.declared.constants.Constant.{Constant}
use Rattle.ck_folding.specs.declared.constants.Constant.TheVariants as constants

abbrev pub constancy : Constant → Constancy
constancy constants.Varying = senses.Varying
constancy constants.Valueless = senses.Valueless
constancy (constants.Known v) = senses.Known v

-- 6.5.13, 6.5.14: 1 where a value is other than 0, else 0
abbrev pub truth_of : Constancy → Constancy
truth_of a = where_known a (λ y. senses.Known (one_if (not (is_zero (senses.Known y)))))
