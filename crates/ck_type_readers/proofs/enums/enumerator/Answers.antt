use Rattle.std.proofs.Common.{refl, sym, ◌∙◌}
use Rattle.ck_readers.specs.SourceView.{words}
use Rattle.ck_type_readers.proofs.EnumeratorLoops.{no_name_here, named_here}
use Rattle.ck_type_readers.proofs.enums.enumerator.Goals as goal

pub returns-in_default : goal.returns-in_default
returns-in_default g c value reads go = rw c.in_default.ensures refl

pub returns-then-not-takes : goal.returns-then-not-takes
returns-then-not-takes g c value reads =
    no_name_here (words c.args.source.now) value c.in-Some.ensures (sym c.takes.ensures ∙ c.if-not-takes.true)

pub returns : goal.returns
returns g c value reads =
    named_here (words c.args.source.now) value c.in-Some.ensures g.T.Building.last_of g.T.Building.before_others
    (sym c.takes.ensures ∙ c.if-not-takes.false) c.enumerator_value.result (c.enumerator_value.ensures value reads)
