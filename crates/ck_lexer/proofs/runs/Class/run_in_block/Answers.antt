use Rattle.std.proofs.Common.{◌≡◌, true, false, cond, eqb, ap, sym, ◌∙◌}
use lib.Count.{count_trailing_zeros}
use Rattle.ck_lexer.specs.Runs.{is_in}
use Rattle.ck_lexer.proofs.BlockLemmas.{first_other}
use Rattle.ck_lexer.proofs.Tests.{eqb-same, no-test, same-eqb}
use Rattle.ck_lexer.proofs.runs.Class.run_in_block.Goals as goal

pub returns-then-others-eq0 : goal.returns-then-others-eq0
returns-then-others-eq0 c =
    let m = c.others_in-others.result in
    let none : eqb m 0 ≡ true = same-eqb m 0 c.if-others-eq0.true in
    sym (ap (λ b. cond b 32 (count_trailing_zeros 64 m)) none)
    ∙ first_other (is_in c.args.self.now) c.args.block m c.fits-block.0 c.others_in-others.ensures

pub returns-else-others-eq0 : goal.returns-else-others-eq0
returns-else-others-eq0 c =
    let m = c.others_in-others.result in
    let some : eqb m 0 ≡ false = no-test (eqb m 0) (λ same. c.if-others-eq0.false (eqb-same m 0 same)) in
    sym (ap (λ b. cond b 32 (count_trailing_zeros 64 m)) some)
    ∙ first_other (is_in c.args.self.now) c.args.block m c.fits-block.0 c.others_in-others.ensures
