use Rattle.std.proofs.Common.{◌≡◌, length}
use Rattle.ck_scopes.specs.Seen.{hide_from}
use Rattle.ck_scopes.proofs.sight.Sight.hide_from.Given as goal

abbrev pub invariant-hiding : goal.invariant-hiding
invariant-hiding l = hide_from l.start l.self ≡ hide_from l.start l.fn.self

abbrev pub decreases-hiding : goal.decreases-hiding
decreases-hiding l = length l.self
