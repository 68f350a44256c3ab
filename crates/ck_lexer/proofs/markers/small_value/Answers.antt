use Rattle.std.proofs.Common.{◌≤◌, ◌^◌, ◌≡◌, ◌+◌, ◌*◌, arith}
use Rattle.std.proofs.Math.Nat.{pow-le-pow_right}
use Rattle.ck_lexer.proofs.Values.{decimal_digit, decimal_more, pow_more}
use Rattle.ck_lexer.proofs.markers.small_value.Goals as goal

pub overflow_mul-value : goal.overflow_mul-value
overflow_mul-value c =
    let power : 10 ^ c.loop-byte.byte-index ≤ 10 ^ 8 = pow-le-pow_right {n = 10} (omega arith)
    {i = c.loop-byte.byte-index} {j = 8} (omega arith) in
    omega arith

pub overflow_add-value : goal.overflow_add-value
overflow_add-value c =
    let power : 10 ^ c.loop-byte.byte-index ≤ 10 ^ 8 = pow-le-pow_right {n = 10} (omega arith)
    {i = c.loop-byte.byte-index} {j = 8} (omega arith) in
    omega arith

pub loop-byte-preserved : goal.loop-byte-preserved
loop-byte-preserved c =
    let i = c.loop-byte.byte-index in
    let digits = c.args.digits.now in
    let more = decimal_more i digits c.requires.digits c.loop-byte-test.true in
    let digit = decimal_digit i digits c.requires.digits c.loop-byte-test.true in
    let so_far = c.loop-byte.invariant.so_far in
    let power : 10 ^ (i + 1) ≡ 10 ^ i * 10 = pow_more i in
    record {
      so_far = omega (arith, more, so_far, c.from.ensures);
      small = omega (arith, power, digit, c.loop-byte.invariant.small, c.from.ensures);
    }
