use Rattle.std.proofs.Common.{◌≡◌, [], take, drop}
use Rattle.ck_base.specs.declared.states.State.TheVariants.{TI}
use Rattle.ck_cli.specs.Walking.{walk}
use Rattle.ck_cli.proofs.walk.first_alarm.Given as goal

abbrev pub invariant-loop-i : goal.invariant-loop-i
invariant-loop-i l = walk l.state (take l.i l.calls) (drop l.i l.calls) ≡ walk TI [] l.calls
