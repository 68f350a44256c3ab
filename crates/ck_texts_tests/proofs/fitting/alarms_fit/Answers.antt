use Rattle.std.proofs.Common.{take, sym}
use Rattle.std.proofs.lemmas.List.{take_all}
use Rattle.std.proofs.lemmas.List.Elements.{All-map, All-same}
use Rattle.ck_texts.specs.declared.verdicts.Alarm.{Alarm}
use Rattle.ck_texts.specs.Placed.{IsPathOf}
use Rattle.ck_texts.specs.Views.{path_of}
use Rattle.ck_texts_tests.proofs.fitting.alarms_fit.Goals as goal

pub returns : goal.returns
returns c =
    let alarms = c.args.alarms.now in
    let roots = c.args.roots.now.list.items in
    All-map (IsPathOf c.args.graph.now roots) path_of alarms
    (All-same (λ (a : Alarm). IsPathOf c.args.graph.now roots (path_of a)) alarms
    (take c.loop-alarm.alarm-index alarms)
    (sym (take_all c.loop-alarm.alarm-index alarms c.loop-alarm-test.false)) c.loop-alarm.invariant)
