use Rattle.std.proofs.Common.{◌≡◌, ◌<◌, ◌^◌, ◌+◌, ◌*◌, ℕ, take, arith, ap, ◌∙◌, take_all, subst}
use Rattle.ck_base.specs.IntegerConstants.{value_of}
use Rattle.ck_types.proofs.DigitValues.{value-take-le, value_more}
use Rattle.ck_types.proofs.literals.value_of.Goals as goal

pub returns-in-None : goal.returns-in-None
returns-in-None c = λ fits.
    let b = c.args.base in
    let i = c.loop-byte.byte-index in
    let more = value_more b i c.args.digits.now c.loop-byte-test.true in
    let front = value-take-le b (i + 1) c.args.digits.now c.requires in
    let same : c.loop-byte.value * b ≡ value_of b (take i c.args.digits.now) * b = ap
    (λ v. v * b) c.loop-byte.invariant.so_far in
    c.in-None.ensures (omega (arith, more, front, same))

pub returns : goal.returns
returns c =
    let whole : take c.loop-byte.byte-index c.args.digits.now ≡ c.args.digits.now = take_all
    c.loop-byte.byte-index c.args.digits.now c.loop-byte-test.false in
    let value : c.loop-byte.value ≡ value_of
    (c.args.base) c.args.digits.now = c.loop-byte.invariant.so_far
    ∙ ap (value_of (c.args.base)) whole in
    let P : ℕ → Type 0 = λ v. v < 2 ^ 64 in
    (subst P value c.loop-byte.invariant.fits, value)

pub loop-byte-preserved : goal.loop-byte-preserved
loop-byte-preserved c =
    let b = c.args.base in
    let more = value_more b c.loop-byte.byte-index c.args.digits.now c.loop-byte-test.true in
    let same : c.loop-byte.value * b ≡ value_of b (take c.loop-byte.byte-index c.args.digits.now) * b = ap
    (λ v. v * b) c.loop-byte.invariant.so_far in
    record { so_far = omega (arith, more, same, c.in-Some.ensures); fits = omega (arith, c.in-Some.ensures) }
