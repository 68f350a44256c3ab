use Rattle.std.proofs.Common.{◌+◌, ◌/◌}
use Rattle.ck_reaching.proofs.TableLemmas.{AreEmptySets}
use Rattle.ck_reaching.proofs.reached.Reached.new.Given as goal

-- the sets so far
abbrev pub invariant-cells : goal.invariant-cells
invariant-cells l = AreEmptySets l._cell (l.functions / 256 + 1) l.sets.items
