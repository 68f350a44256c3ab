use Rattle.std.specs.Prelude.{Ok}
use Rattle.ck_declaration_readers.proofs.Declared.{bare_read, declaration_read}
use Rattle.ck_grammar.specs.Trees.{NoSpecifiers}
use Rattle.ck_readers.proofs.Readings.{found_some}
use Rattle.ck_readers.specs.SourceView.{words}
use Rattle.ck_declaration_readers.proofs.declarations.declaration.Goals as goal

pub returns-in_default-mark : goal.returns-in_default-mark
returns-in_default-mark g c of d i specified named valued =
    declaration_read (words c.args.source.now) d i c.args.source.now.tokens c.args.at
    g.T.BuildingDeclarations.declaration (λ row. g.T.Building.specifiers row NoSpecifiers) of c.in-Some.read
    (found_some _ _ _ _ _ _ c.in-Some.is
    (specified c.args.at (Ok c.in_ok-read.field-0) c.ranges.at.fits c.in_ok-read.ensures))
    c.in_default-mark.ensures c.names.result (c.names.ensures d i named valued)

pub returns : goal.returns
returns g c of d i specified named valued =
    bare_read (words c.args.source.now) d i c.args.source.now.tokens c.args.at
    g.T.BuildingDeclarations.declaration (λ row. g.T.Building.specifiers row NoSpecifiers) of c.in-Some.read
    (found_some _ _ _ _ _ _ c.in-Some.is
    (specified c.args.at (Ok c.in_ok-read.field-0) c.ranges.at.fits c.in_ok-read.ensures))
    c.in-Some-mark.mark c.bare.result c.in-Some-mark.ensures c.bare.ensures
