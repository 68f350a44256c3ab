use Rattle.std.proofs.Common.{rules, drop}
use Rattle.std.specs.Prelude.{Ok, Some}
use Rattle.ck_grammar.specs.Levels.{comma}
use Rattle.ck_grammar.specs.ReadingStatements.{controlling}
use Rattle.ck_readers.proofs.Readings.{found_none, found_some}
use Rattle.ck_readers.specs.SourceView.{words}
use Rattle.ck_statement_readers.proofs.Tests.{no_body, no_test, test_body, while_made}
use Rattle.ck_statement_trees.proofs.Wholes.{made_read}
use Rattle.ck_statement_readers.proofs.loops.while_loop.Goals as goal

pub returns-in_default : goal.returns-in_default
returns-in_default g c inner d s reads bodies =
    no_test (words c.args.source.now) (inner comma) s (while_made c.args.keyword)
    (drop c.args.at c.args.source.now.tokens)
    (found_none g.T.BuildingStatements.controlling (controlling (words c.args.source.now) (inner comma))
    c.args.source.now.tokens c.args.at _ c.in_default.is (c.in_ok-found.ensures inner reads))

pub returns-in_default-2 : goal.returns-in_default-2
returns-in_default-2 g c inner d s reads bodies =
    let found =
    found_some g.T.BuildingStatements.controlling (controlling (words c.args.source.now) (inner comma))
    c.args.source.now.tokens c.args.at _ _ c.in-Some.is (c.in_ok-found.ensures inner reads) in
    no_body (words c.args.source.now) (inner comma) s (while_made c.args.keyword)
    (drop c.args.at c.args.source.now.tokens) _ found.read
    (found_none g.T.BuildingStatements.statement s c.args.source.now.tokens c.in-Some.found.1 _ c.in_default-2.is
    (bodies c.in-Some.found.1 (Ok c.in_ok-read.field-0) (search rules) c.in_ok-read.ensures))

pub returns : goal.returns
returns g c inner d s reads bodies =
    test_body (words c.args.source.now) (inner comma) s (while_made c.args.keyword)
    g.T.BuildingStatements.statement g.T.BuildingStatements.controlling c.args.source.now.tokens c.args.at
    c.in-Some.found c.in-Some-2.read
    (found_some _ _ _ _ _ _ c.in-Some.is (c.in_ok-found.ensures inner reads))
    (found_some _ _ _ _ _ _ c.in-Some-2.is
    (bodies c.in-Some.found.1 (Ok c.in_ok-read.field-0) (search rules) c.in_ok-read.ensures))
    (Ok (Some (c.in_ok-while_loop.field-0, c.in-Some-2.read.1)))
    (made_read g.T.BuildingStatements.statement c.in_ok-while_loop.field-0 _ c.args.source.now.tokens
    c.in-Some-2.read.1 c.in_ok-while_loop.ensures)
