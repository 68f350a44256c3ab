use Rattle.std.proofs.Common.{rules}
use Rattle.std.specs.Prelude.{Ok}
use Rattle.ck_readers.specs.SourceView.{words}
use Rattle.ck_readers.proofs.Readings.{found_some}
use Rattle.ck_type_readers.proofs.EnumeratorLoops.{valued_read}
use Rattle.ck_type_readers.proofs.enums.enumerator_value.Goals as goal

pub returns : goal.returns
returns g c value reads =
    valued_read (words c.args.source.now) value c.args.name g.T.Building.last_of g.T.Building.before_others
    c.in_ok-one.one c.in-Some-mark.ensures
    (found_some g.T.Building.expr value c.args.source.now.tokens c.in-Some-mark.mark.1 _ _ c.in-Some-2.is
    (reads c.in-Some-mark.mark.1 (Ok c.in_ok-read.field-0) (search rules) c.in_ok-read.ensures))
    c.in_ok-one.ensures.last c.in_ok-one.ensures.before
