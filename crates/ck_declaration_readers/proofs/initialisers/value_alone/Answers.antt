use Rattle.std.specs.Prelude.{Ok}
use Rattle.ck_declaration_readers.proofs.Initialised.{value_read}
use Rattle.ck_readers.proofs.Readings.{found_some}
use Rattle.ck_declaration_readers.proofs.initialisers.value_alone.Goals as goal

pub returns : goal.returns
returns g c v reads =
    value_read v g.T.BuildingDeclarations.init g.T.Building.expr c.args.source.now.tokens c.args.at c.len.result
    c.in-Some.read c.value-2.result c.if-at-len.false c.len.ensures
    (found_some _ _ _ _ _ _ c.in-Some.is
    (reads c.args.at (Ok c.in_ok-read.field-0) c.ranges.at.fits c.in_ok-read.ensures))
    c.value-2.ensures
