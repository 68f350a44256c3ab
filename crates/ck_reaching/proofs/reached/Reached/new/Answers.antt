use Rattle.std.proofs.Common.{◌+◌, ◌/◌}
use Rattle.ck_reaching.proofs.TableLemmas.{empty_sets-none, empty_sets-more}
use Rattle.ck_reaching.proofs.reached.Reached.new.Goals as goal

pub cells-init : goal.cells-init
cells-init c = empty_sets-none c.new-sets.result.items (c.args.functions / 256 + 1) c.new-sets.ensures.items

pub cells-preserved : goal.cells-preserved
cells-preserved c =
    empty_sets-more c.cells._cell (c.args.functions / 256 + 1) c.cells.sets.items c.push.new.self.items c.in_ok-set.set
    c.in_ok-push.ensures.items c.in_ok-set.ensures.size c.in_ok-set.ensures.empty c.cells.invariant
