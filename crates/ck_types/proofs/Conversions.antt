-- A converted value is in its type's range, and one that is there already stays.
use Rattle.std.proofs.Common.{zero, suc, pos, negsuc, refl, arith}
use Rattle.ck_types.specs.Ranges.{ConvertsIntoRange, ConvertsToItself}
use Rattle.ck_types.specs.declared.integer_types.IntegerType.TheVariants as types

pub converts_into_range : ConvertsIntoRange
converts_into_range types.Bool (pos zero) = refl
converts_into_range types.Bool (pos (suc n)) = refl
converts_into_range types.Bool (negsuc n) = refl
converts_into_range types.Char z = grind arith
converts_into_range types.SignedChar z = grind arith
converts_into_range types.Short z = grind arith
converts_into_range types.UnsignedShort z = grind arith
converts_into_range types.Int z = grind arith
converts_into_range types.UnsignedInt z = grind arith
converts_into_range types.Long z = grind arith
converts_into_range types.UnsignedLong z = grind arith
converts_into_range types.LongLong z = grind arith
converts_into_range types.UnsignedLongLong z = grind arith

pub converts_to_itself : ConvertsToItself
converts_to_itself types.Bool (pos zero) h = refl
converts_to_itself types.Bool (pos (suc n)) h = grind arith
converts_to_itself types.Bool (negsuc n) h = grind arith
converts_to_itself types.Char z h = grind arith
converts_to_itself types.SignedChar z h = grind arith
converts_to_itself types.Short z h = grind arith
converts_to_itself types.UnsignedShort z h = grind arith
converts_to_itself types.Int z h = grind arith
converts_to_itself types.UnsignedInt z h = grind arith
converts_to_itself types.Long z h = grind arith
converts_to_itself types.UnsignedLong z h = grind arith
converts_to_itself types.LongLong z h = grind arith
converts_to_itself types.UnsignedLongLong z h = grind arith
