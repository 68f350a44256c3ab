use Rattle.std.proofs.Common.{rules}
use Rattle.std.specs.Prelude.{Ok}
use Rattle.ck_readers.proofs.Readings.{found_some}
use Rattle.ck_readers.specs.SourceView.{words}
use Rattle.ck_statement_readers.proofs.Tests.{else_read}
use Rattle.ck_statement_readers.proofs.selections.else_part.Goals as goal

pub returns : goal.returns
returns g c s bodies =
    else_read (words c.args.source.now) s g.T.BuildingStatements.statement c.args.keyword
    (g.T.BuildingStatements.controlling c.args.test) (g.T.BuildingStatements.statement c.args.body)
    c.args.source.now.tokens c.args.at c.in-Some.mark c.in-Some-2.read c.in_ok-tree-2.tree c.in-Some.ensures
    (found_some _ _ _ _ _ _ c.in-Some-2.is
    (bodies c.in-Some.mark.1 (Ok c.in_ok-read.field-0) (search rules) c.in_ok-read.ensures))
    c.in_ok-tree-2.ensures
