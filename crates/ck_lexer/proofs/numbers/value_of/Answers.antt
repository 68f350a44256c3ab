use Rattle.std.proofs.Common.{◌≡◌, ◌<◌, ◌^◌, ◌+◌, ◌*◌, ℕ, take, arith, ap, ◌∙◌, take_all, subst}
use Rattle.ck_base.specs.IntegerConstants.{value_of}
use Rattle.ck_lexer.specs.Scanning.{number_of}
use Rattle.ck_lexer.proofs.Values.{value-take-le, value_more, base-positive}
use Rattle.ck_lexer.proofs.numbers.value_of.Goals as goal

pub returns-in-None : goal.returns-in-None
returns-in-None c = λ fits.
    let b = number_of c.args.base in
    let i = c.loop-digit.digit-index in
    let more = value_more b i c.args.digits.now c.loop-digit-test.true in
    let front = value-take-le b (i + 1) c.args.digits.now (base-positive c.args.base) in
    let same : c.loop-digit.value * b ≡ value_of b (take i c.args.digits.now) * b = ap
    (λ v. v * b) c.loop-digit.invariant.so_far in
    c.in-None.ensures (omega (arith, more, front, same))

pub returns : goal.returns
returns c =
    let whole : take c.loop-digit.digit-index c.args.digits.now ≡ c.args.digits.now = take_all
    c.loop-digit.digit-index c.args.digits.now c.loop-digit-test.false in
    let value : c.loop-digit.value ≡ value_of
    (number_of c.args.base) c.args.digits.now = c.loop-digit.invariant.so_far
    ∙ ap (value_of (number_of c.args.base)) whole in
    let P : ℕ → Type 0 = λ v. v < 2 ^ 64 in
    (subst P value c.loop-digit.invariant.fits, value)

pub loop-digit-preserved : goal.loop-digit-preserved
loop-digit-preserved c =
    let b = number_of c.args.base in
    let more = value_more b c.loop-digit.digit-index c.args.digits.now c.loop-digit-test.true in
    let same : c.loop-digit.value * b ≡ value_of b (take c.loop-digit.digit-index c.args.digits.now) * b = ap
    (λ v. v * b) c.loop-digit.invariant.so_far in
    record { so_far = omega (arith, more, same, c.in-Some.ensures); fits = omega (arith, c.in-Some.ensures) }
