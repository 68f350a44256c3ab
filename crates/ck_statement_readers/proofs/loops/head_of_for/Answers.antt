use Rattle.ck_grammar.specs.Levels.{comma}
use Rattle.ck_grammar.specs.ReadingStatements.{start}
use Rattle.ck_readers.proofs.Readings.{found_none, found_some}
use Rattle.ck_readers.specs.SourceView.{words}
use Rattle.ck_statement_readers.proofs.Heads.{started, unopened, unstarted}
use Rattle.ck_statement_readers.proofs.loops.head_of_for.Goals as goal

pub returns-in_default : goal.returns-in_default
returns-in_default g c inner d tests declared =
    unopened (words c.args.source.now) (inner comma) d c.args.source.now.tokens c.args.at c.in_default.ensures

pub returns-in_default-2 : goal.returns-in_default-2
returns-in_default-2 g c inner d tests declared =
    let w = words c.args.source.now in
    unstarted w (inner comma) d c.args.source.now.tokens c.args.at c.in-Some.mark c.in-Some.ensures
    (found_none g.T.BuildingStatements.for_start (start w (inner comma) d) c.args.source.now.tokens c.in-Some.mark.1 _
    c.in_default-2.is (c.in_ok-found.ensures inner d tests declared))

pub returns : goal.returns
returns g c inner d tests declared =
    started (words c.args.source.now) (inner comma) d c.args.source.now.tokens c.args.at c.in-Some.mark
    c.in-Some.ensures g.T.BuildingStatements.for_start g.T.BuildingStatements.for_head c.in-Some-2.found
    (found_some _ _ _ _ _ _ c.in-Some-2.is (c.in_ok-found.ensures inner d tests declared))
    c.rest_of_head.result (c.rest_of_head.ensures inner tests)
