use Rattle.std.proofs.Common.{drop}
use Rattle.ck_grammar.specs.ReadingExpressions.{cast}
use Rattle.ck_readers.proofs.Readings.{level_none, level_step, level_end, found_none, found_some}
use Rattle.ck_readers.specs.SourceView.{words}
use Rattle.ck_readers.proofs.levels.expression.Goals as goal

pub returns-in_default : goal.returns-in_default
returns-in_default g c inner ty reads types =
    let w = words c.args.source.now in
    level_none w inner ty c.args.depth c.args.of (drop c.args.at c.args.source.now.tokens)
    (found_none g.T.Building.expr (cast w inner ty c.args.depth) c.args.source.now.tokens c.args.at _ c.in_default.is
    (c.in_ok-read.ensures inner ty reads types))

pub levels-init : goal.levels-init
levels-init g c inner ty reads types =
    found_some _ _ _ _ _ _ c.in-Some.is (c.in_ok-read.ensures inner ty reads types)

pub levels-preserved : goal.levels-preserved
levels-preserved g c inner ty reads types =
    level_step (words c.args.source.now) inner ty c.args.depth g.T.Building.expr c.levels.tighter _ _ _ _
    (c.levels.invariant inner ty reads types) (c.in_ok-longer.ensures inner reads)

pub returns : goal.returns
returns g c inner ty reads types =
    level_end (words c.args.source.now) inner ty c.args.depth g.T.Building.expr c.levels.tighter c.args.of _ _ _
    c.levels-test.false c.levels.auto.tighter-end (c.levels.invariant inner ty reads types)
