use Rattle.std.proofs.Common.{◌+◌, sym, subst, ◌∙◌, arith}
use Rattle.ck_compatible.specs.Pairs.{AreSettled}
use Rattle.ck_compatible.proofs.ClosedPairs.{all-settled, apart, past-none, settled-more}
use Rattle.ck_compatible.proofs.pairs.agreeing_pairs.Goals as goal

pub returns-then-not-agree-clause-apart : goal.returns-then-not-agree-clause-apart
returns-then-not-agree-clause-apart c =
    apart c.args.types.now c.entry-one.ensures.table c.in-Some.pair.0 c.in-Some.pair.1 c.entry-one.result
    c.entry-other.result c.entry-one.ensures.node c.entry-other.ensures.node c.args.a c.args.b c.pairs.at
    c.pairs.pairs.keys c.pairs.invariant (sym c.in-Some.ensures.pair)
    (grind (arith, c.agree.ensures, c.if-not-agree.true))

pub pairs-preserved : goal.pairs-preserved
pairs-preserved c =
    subst (AreSettled c.args.types.now c.args.a c.args.b (c.pairs.at + 1)) (sym c.in_ok-put.ensures)
    (settled-more c.args.types.now c.entry-one.ensures.table c.in-Some.pair.0 c.in-Some.pair.1 c.entry-one.result
    c.entry-other.result c.entry-one.ensures.node c.entry-other.ensures.node c.args.a c.args.b c.pairs.at
    c.pairs.pairs.keys c.pairs.invariant (sym c.in-Some.ensures.pair)
    (grind (arith, c.agree.ensures, c.if-not-agree.false)))

pub returns-clause-agreeing : goal.returns-clause-agreeing
returns-clause-agreeing c =
    all-settled c.args.types.now c.args.a c.args.b c.pairs.at c.pairs.pairs.keys c.pairs.invariant
    (past-none c.pairs.pairs.keys c.pairs.at (sym c.pair_at.ensures.pair ∙ c.in_default.is))
