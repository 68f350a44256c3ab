use Rattle.std.specs.Prelude.{Ok}
use Rattle.ck_declaration_readers.proofs.Declared.{names_read}
use Rattle.ck_grammar.specs.Trees.{NoSpecifiers}
use Rattle.ck_readers.proofs.Readings.{found_some}
use Rattle.ck_readers.specs.SourceView.{words}
use Rattle.ck_declaration_readers.proofs.declarations.names.Goals as goal

pub returns : goal.returns
returns g c d i named valued =
    names_read (words c.args.source.now) d i c.args.source.now.tokens c.args.at g.T.BuildingDeclarations.declaration
    g.T.Building.declarator (g.T.Building.specifiers c.args.of NoSpecifiers) c.in-Some.read
    (found_some _ _ _ _ _ _ c.in-Some.is
    (named c.args.at (Ok c.in_ok-read.field-0) c.ranges.at.fits c.in_ok-read.ensures))
    c.declares.result (c.declares.ensures d i named valued)
