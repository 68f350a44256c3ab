use Rattle.std.proofs.Common.{arith}
use Rattle.std.proofs.lemmas.List.Sums.{prefix_len-le-length}
use Rattle.ck_base.specs.IntegerConstants.{is_digit_of}
use Rattle.ck_types.proofs.literals.integer_constant.Goals as goal

pub split_at-requires : goal.split_at-requires
split_at-requires c = omega (
  arith,
  prefix_len-le-length
      (is_digit_of c.base_of-base.result) c.after_prefix-part.result.now,
  c.digits_length.ensures,
)
