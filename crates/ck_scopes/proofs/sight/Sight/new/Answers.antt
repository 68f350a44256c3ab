use Rattle.std.proofs.Common.{ap}
use Rattle.std.specs.Prelude.{reverse}
use Rattle.ck_scopes.proofs.IndexedLemmas.{indexed_none}
use Rattle.ck_scopes.proofs.sight.Sight.new.Goals as goal

pub invariant_of-result : goal.invariant_of-result
invariant_of-result c =
    indexed_none (reverse c.new.result.items) c.new-2.result (ap reverse c.new.ensures.items) c.new-2.ensures
