use Rattle.std.proofs.Common.{rules}
use Rattle.std.specs.Prelude.{Ok}
use Rattle.ck_file_readers.proofs.TypeDeclarations.{type_pushed}
use Rattle.ck_file_readers.specs.Steps.{declarator_in}
use Rattle.ck_readers.proofs.Readings.{found_some}
use Rattle.ck_file_readers.proofs.types.next_type.Goals as goal

pub returns-clause-reads : goal.returns-clause-reads
returns-clause-reads g c n names =
    type_pushed n (g.T.BuildingDeclarations.more_declared c.args.row.now)
    (g.T.BuildingDeclarations.more_declared c.push_plainly.new.row) c.args.source.now c.add_name.new.source c.args.at
    c.in-Some.mark g.T.Building.declarator c.in-Some-2.read c.in-Some.ensures
    (found_some g.T.Building.declarator (declarator_in n c.args.source.now) c.args.source.now.tokens c.in-Some.mark.1
    c.in_ok-read.field-0 c.in-Some-2.read c.in-Some-2.is
    (names _ c.in-Some.mark.1 (Ok c.in_ok-read.field-0) (search rules) c.in_ok-read.ensures))
    c.in_ok-push_plainly.ensures c.in_ok-add_name.ensures.added
