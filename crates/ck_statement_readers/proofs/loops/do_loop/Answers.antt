use Rattle.std.specs.Prelude.{Ok}
use Rattle.ck_grammar.specs.Levels.{comma}
use Rattle.ck_grammar.specs.ReadingStatements.{controlling}
use Rattle.ck_readers.proofs.Readings.{found_none, found_some}
use Rattle.ck_readers.specs.SourceView.{words}
use Rattle.ck_statement_readers.proofs.LoopParts.{do_read, do_unended, do_untested}
use Rattle.ck_statement_readers.proofs.loops.do_loop.Goals as goal

pub returns-in_default-2 : goal.returns-in_default-2
returns-in_default-2 g c inner d s tests bodies =
    do_untested (words c.args.source.now) inner d s c.args.keyword c.args.source.now.tokens c.args.at
    g.T.BuildingStatements.statement c.in-Some.read c.in-Some-mark.mark
    (found_some _ _ _ _ _ _ c.in-Some.is
    (bodies c.args.at (Ok c.in_ok-read.field-0) c.ranges.at.fits c.in_ok-read.ensures))
    c.in-Some-mark.ensures
    (found_none g.T.BuildingStatements.controlling (controlling (words c.args.source.now) (inner comma))
    c.args.source.now.tokens c.in-Some-mark.mark.1 _ c.in_default-2.is (c.in_ok-found.ensures inner tests))

pub returns-in_default-mark-2 : goal.returns-in_default-mark-2
returns-in_default-mark-2 g c inner d s tests bodies =
    let test =
    found_some g.T.BuildingStatements.controlling (controlling (words c.args.source.now) (inner comma))
    c.args.source.now.tokens c.in-Some-mark.mark.1 _ _ c.in-Some-2.is (c.in_ok-found.ensures inner tests) in
    do_unended (words c.args.source.now) inner d s c.args.keyword c.args.source.now.tokens c.args.at
    g.T.BuildingStatements.statement c.in-Some.read c.in-Some-mark.mark
    (found_some _ _ _ _ _ _ c.in-Some.is
    (bodies c.args.at (Ok c.in_ok-read.field-0) c.ranges.at.fits c.in_ok-read.ensures))
    c.in-Some-mark.ensures _ test.read c.in_default-mark-2.ensures

pub returns : goal.returns
returns g c inner d s tests bodies =
    do_read (words c.args.source.now) inner d s c.args.keyword c.args.source.now.tokens c.args.at
    g.T.BuildingStatements.statement c.in-Some.read c.in-Some-mark.mark
    (found_some _ _ _ _ _ _ c.in-Some.is
    (bodies c.args.at (Ok c.in_ok-read.field-0) c.ranges.at.fits c.in_ok-read.ensures))
    c.in-Some-mark.ensures g.T.BuildingStatements.controlling c.in-Some-2.found c.in-Some-mark-2.mark
    c.in_ok-tree.tree (found_some _ _ _ _ _ _ c.in-Some-2.is (c.in_ok-found.ensures inner tests))
    c.in-Some-mark-2.ensures c.in_ok-tree.ensures
