use Rattle.std.proofs.Common.{◌-◌}
use Rattle.ck_reaching.specs.Solving.{ConnectsBelow}
use Rattle.ck_reaching.proofs.solving.connect_functions.Given as goal

-- the functions so far were seen
abbrev pub invariant-functions : goal.invariant-functions
invariant-functions l = ConnectsBelow l.rules l.cell.0 l.number l.seen l.initial.work l.work

abbrev pub decreases-functions : goal.decreases-functions
decreases-functions l = l.functions - l.number
