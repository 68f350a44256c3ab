use Rattle.std.proofs.Common.{rules}
use Rattle.std.specs.Prelude.{Ok}
use Rattle.ck_grammar.specs.Levels.{comma}
use Rattle.ck_readers.proofs.Readings.{found_none, found_some}
use Rattle.ck_readers.specs.SourceView.{words}
use Rattle.ck_statement_readers.specs.Steps.{head_of_for}
use Rattle.ck_statement_readers.proofs.Heads.{part_none, part_some}
use Rattle.ck_statement_readers.proofs.LoopParts.{bodiless, for_read, headless}
use Rattle.ck_statement_readers.proofs.loops.for_loop.Goals as goal

pub returns-in_default : goal.returns-in_default
returns-in_default g c inner d s tests declared bodies =
    let w = words c.args.source.now in
    headless w inner d s c.args.keyword c.args.source.now.tokens c.args.at
    (part_none g.T.BuildingStatements.for_head (head_of_for w (inner comma) d) c.args.source.now.tokens c.args.at _
    c.in_default.is (c.in_ok-found.ensures inner d tests declared))

pub returns-in_default-2 : goal.returns-in_default-2
returns-in_default-2 g c inner d s tests declared bodies =
    let w = words c.args.source.now in
    bodiless w inner d s c.args.keyword c.args.source.now.tokens c.args.at g.T.BuildingStatements.for_head
    c.in-Some.found
    (part_some g.T.BuildingStatements.for_head (head_of_for w (inner comma) d) c.args.source.now.tokens c.args.at _ _
    c.in-Some.is (c.in_ok-found.ensures inner d tests declared))
    (found_none g.T.BuildingStatements.statement s c.args.source.now.tokens c.in-Some.found.1 _ c.in_default-2.is
    (bodies c.in-Some.found.1 (Ok c.in_ok-read.field-0) (search rules) c.in_ok-read.ensures))

pub returns : goal.returns
returns g c inner d s tests declared bodies =
    let w = words c.args.source.now in
    for_read w inner d s c.args.keyword c.args.source.now.tokens c.args.at g.T.BuildingStatements.for_head
    c.in-Some.found
    (part_some g.T.BuildingStatements.for_head (head_of_for w (inner comma) d) c.args.source.now.tokens c.args.at _ _
    c.in-Some.is (c.in_ok-found.ensures inner d tests declared))
    g.T.BuildingStatements.statement c.in-Some-2.read c.in_ok-for_loop.field-0
    (found_some _ _ _ _ _ _ c.in-Some-2.is
    (bodies c.in-Some.found.1 (Ok c.in_ok-read.field-0) (search rules) c.in_ok-read.ensures))
    c.in_ok-for_loop.ensures
