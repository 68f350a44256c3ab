use Rattle.ck_texts.specs.Placed.{IsPathOf}
use Rattle.ck_texts.specs.Printing.{place_by}
use Rattle.ck_texts.specs.Report.{alarm_text}
use Rattle.ck_texts.specs.Views.{names_of, path_of}
use Rattle.ck_texts.proofs.GraphLemmas.{All-view}
use Rattle.ck_texts.proofs.LineLemmas.{numbered-more}
use Rattle.ck_texts.proofs.reporting.push_alarms.Goals as goal

pub push_alarm-requires-clause-alarm : goal.push_alarm-requires-clause-alarm
push_alarm-requires-clause-alarm c =
    All-view (IsPathOf c.args.graph.now c.args.roots.now.list.items) path_of c.args.alarms.now c.loop-index.index
    c.index-alarms-index.result c.requires.alarms c.loop-index-test.true c.index-alarms-index.is

pub loop-index-preserved : goal.loop-index-preserved
loop-index-preserved c =
    numbered-more (alarm_text c.args.graph.now c.args.roots.now.list.items (names_of c.args.names.now)
    (place_by c.args.names.now.maps.items)) path_of c.args.alarms.now c.loop-index.index c.index-alarms-index.result
    c.args.text.now.items c.loop-index.text.items c.push_alarm.new.text.items c.loop-index-test.true
    c.index-alarms-index.is c.loop-index.invariant c.in_ok-push_alarm.ensures
