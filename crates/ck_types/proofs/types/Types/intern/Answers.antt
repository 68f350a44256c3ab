use Rattle.ck_types.proofs.Tables.{node-named}
use Rattle.ck_types.proofs.types.Types.intern.Goals as goal

pub returns-clause-named : goal.returns-clause-named
returns-clause-named c = node-named c.place.new.nodes.keys c.in_ok-place.field-0 _ c.in_ok-place.ensures.number
