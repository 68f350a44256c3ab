use Rattle.std.proofs.Common.{drop}
use Rattle.ck_grammar.specs.Levels.{comma}
use Rattle.ck_grammar.specs.ReadingStatements.{maybe_expr}
use Rattle.ck_readers.proofs.Readings.{found_none, found_some}
use Rattle.ck_readers.specs.SourceView.{words}
use Rattle.ck_statement_readers.proofs.Heads.{no_closing, no_semicolon, no_step, no_test, rest_read}
use Rattle.ck_statement_readers.proofs.loops.rest_of_head.Goals as goal
use Rattle.ck_statement_trees.specs.Parts.{maybe}

pub returns-in_default : goal.returns-in_default
returns-in_default g c inner tests go =
    let w = words c.args.source.now in
    no_test w (inner comma) c.args.opening (g.T.BuildingStatements.for_start c.args.first) go
    (drop c.args.at c.args.source.now.tokens)
    (found_none (maybe g.T.Building.expr) (maybe_expr w (inner comma)) c.args.source.now.tokens c.args.at _
    c.in_default.is (c.in_ok-found.ensures inner tests))

pub returns-in_default-mark : goal.returns-in_default-mark
returns-in_default-mark g c inner tests go =
    let test =
    found_some (maybe g.T.Building.expr) (maybe_expr (words c.args.source.now) (inner comma))
    c.args.source.now.tokens c.args.at _ _ c.in-Some.is (c.in_ok-found.ensures inner tests) in
    no_semicolon (words c.args.source.now) (inner comma) c.args.opening
    (g.T.BuildingStatements.for_start c.args.first) go (drop c.args.at c.args.source.now.tokens) _ test.read
    c.in_default-mark.ensures

pub returns-in_default-2 : goal.returns-in_default-2
returns-in_default-2 g c inner tests go =
    let w = words c.args.source.now in
    let test =
    found_some (maybe g.T.Building.expr) (maybe_expr (words c.args.source.now) (inner comma))
    c.args.source.now.tokens c.args.at _ _ c.in-Some.is (c.in_ok-found.ensures inner tests) in
    no_step w (inner comma) c.args.opening (g.T.BuildingStatements.for_start c.args.first) go
    (drop c.args.at c.args.source.now.tokens) _ test.read _ c.in-Some-mark.ensures.read
    (found_none (maybe g.T.Building.expr) (maybe_expr w (inner comma)) c.args.source.now.tokens c.in-Some-mark.mark.1 _
    c.in_default-2.is (c.in_ok-found-2.ensures inner tests))

pub returns-in_default-mark-2 : goal.returns-in_default-mark-2
returns-in_default-mark-2 g c inner tests go =
    let test =
    found_some (maybe g.T.Building.expr) (maybe_expr (words c.args.source.now) (inner comma))
    c.args.source.now.tokens c.args.at _ _ c.in-Some.is (c.in_ok-found.ensures inner tests) in
    let step =
    found_some (maybe g.T.Building.expr) (maybe_expr (words c.args.source.now) (inner comma))
    c.args.source.now.tokens c.in-Some-mark.mark.1 _ _ c.in-Some-2.is (c.in_ok-found-2.ensures inner tests) in
    no_closing (words c.args.source.now) (inner comma) c.args.opening
    (g.T.BuildingStatements.for_start c.args.first) go (drop c.args.at c.args.source.now.tokens) _ test.read _
    c.in-Some-mark.ensures.read _ step.read c.in_default-mark-2.ensures

pub returns : goal.returns
returns g c inner tests =
    rest_read (words c.args.source.now) (inner comma) c.args.opening (g.T.BuildingStatements.for_start c.args.first)
    c.args.source.now.tokens c.args.at g.T.Building.expr g.T.BuildingStatements.for_head c.in-Some.found
    c.in-Some-2.found c.in-Some-mark.mark c.in-Some-mark-2.mark c.in_ok-head.head
    (found_some _ _ _ _ _ _ c.in-Some.is (c.in_ok-found.ensures inner tests)) c.in-Some-mark.ensures
    (found_some _ _ _ _ _ _ c.in-Some-2.is (c.in_ok-found-2.ensures inner tests)) c.in-Some-mark-2.ensures
    c.in_ok-head.ensures
