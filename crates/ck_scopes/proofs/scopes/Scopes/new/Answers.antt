use Rattle.std.proofs.Common.{ap}
use Rattle.std.specs.Prelude.{reverse}
use Rattle.ck_scopes.proofs.KeptLemmas.{environment_start, kept_start}
use Rattle.ck_scopes.proofs.scopes.Scopes.new.Goals as goal

pub invariant_of-result : goal.invariant_of-result
invariant_of-result c =
    kept_start (reverse c.new.result.items) (reverse c.new-2.result.items) c.new-3.result
    (ap reverse c.new.ensures.items) (ap reverse c.new-2.ensures.items) c.new-3.ensures

pub returns : goal.returns
returns c =
    environment_start (reverse c.new.result.items) (reverse c.new-2.result.items) (ap reverse c.new.ensures.items)
    (ap reverse c.new-2.ensures.items)
