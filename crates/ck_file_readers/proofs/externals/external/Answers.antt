use Rattle.std.proofs.Common.{suc}
use Rattle.std.specs.Prelude.{Ok}
use Rattle.ck_file_readers.proofs.Wholes.{with_name}
use Rattle.ck_file_readers.specs.Steps.{specifiers_in}
use Rattle.ck_grammar.specs.Trees.{NoSpecifiers}
use Rattle.ck_readers.proofs.Readings.{found_some}
use Rattle.ck_file_readers.proofs.externals.external.Goals as goal

pub returns-in_default-mark-clause-reads : goal.returns-in_default-mark-clause-reads
returns-in_default-mark-clause-reads g c n specified names values bodies =
    with_name n c.args.source.now c.named.new.source c.args.at g.T.BuildingStatements.external
    (λ row. g.T.Building.specifiers row NoSpecifiers) c.in-Some.read
    (found_some (λ row. g.T.Building.specifiers row NoSpecifiers) (specifiers_in (suc n) c.args.source.now)
    c.args.source.now.tokens c.args.at c.in_ok-read.field-0 c.in-Some.read c.in-Some.is
    (specified _ c.args.at (Ok c.in_ok-read.field-0) c.ranges.at.fits c.in_ok-read.ensures))
    c.in_default-mark.ensures c.named.result (c.named.ensures.reads n names values bodies)
