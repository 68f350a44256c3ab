use Rattle.std.proofs.Common.{take}
use Rattle.std.specs.List.{All}
use Rattle.ck_texts.specs.declared.verdicts.Alarm.{Alarm}
use Rattle.ck_texts.specs.Placed.{IsPathOf}
use Rattle.ck_texts.specs.Views.{path_of}
use Rattle.ck_texts_tests.proofs.fitting.alarms_fit.Given as goal

abbrev pub invariant-loop-alarm : goal.invariant-loop-alarm
invariant-loop-alarm l =
    All (λ (alarm : Alarm). IsPathOf l.graph l.roots.list.items (path_of alarm)) (take l.alarm-index l.alarms)
