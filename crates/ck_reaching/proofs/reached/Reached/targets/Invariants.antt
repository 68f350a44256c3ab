use Rattle.std.proofs.Common.{◌-◌}
use Rattle.ck_reaching.proofs.TargetLists.{AreTargetsBelow}
use Rattle.ck_reaching.proofs.reached.Reached.targets.Given as goal

-- the targets so far
abbrev pub invariant-functions : goal.invariant-functions
invariant-functions l = AreTargetsBelow l.rules l.call l.number l.targets.items

abbrev pub decreases-functions : goal.decreases-functions
decreases-functions l = l.functions - l.number
