use Rattle.std.proofs.Common.{rules}
use Rattle.std.specs.Prelude.{Ok}
use Rattle.ck_declaration_readers.proofs.Declared.{initialised_read, plainly_read}
use Rattle.ck_readers.proofs.Readings.{found_some}
use Rattle.ck_readers.specs.SourceView.{words}
use Rattle.ck_declaration_readers.proofs.declarations.declared.Goals as goal

pub returns-in_default : goal.returns-in_default
returns-in_default g c d i named valued =
    plainly_read (words c.args.source.now) d i c.args.source.now.tokens c.args.at g.T.BuildingDeclarations.declared
    g.T.BuildingDeclarations.more_declared _ _ c.in_default.ensures (c.in_ok-others.ensures d i named valued)
    c.plainly.ensures

pub returns : goal.returns
returns g c d i named valued =
    initialised_read (words c.args.source.now) d i c.args.source.now.tokens c.args.at g.T.BuildingDeclarations.declared
    g.T.BuildingDeclarations.init g.T.BuildingDeclarations.more_declared c.in-Some.mark c.in-Some-2.read _ _
    c.in-Some.ensures
    (found_some _ _ _ _ _ _ c.in-Some-2.is
    (valued c.in-Some.mark.1 (Ok c.in_ok-read.field-0) (search rules) c.in_ok-read.ensures))
    (c.in_ok-others-2.ensures d i named valued) c.initialised.ensures
