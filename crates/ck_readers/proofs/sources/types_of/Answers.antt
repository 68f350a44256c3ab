use Rattle.ck_readers.proofs.NameLemmas.{types_step, types_all}
use Rattle.ck_readers.proofs.sources.types_of.Goals as goal

pub names-preserved : goal.names-preserved
names-preserved c =
    types_step _ _ _ _ _ _ _ c.names-test.true c.names.invariant c.in_ok-push.ensures.items c.contains.ensures

pub returns : goal.returns
returns c = types_all _ _ _ _ _ c.names-test.false c.as_slice-name-items.ensures.keys c.names.invariant
