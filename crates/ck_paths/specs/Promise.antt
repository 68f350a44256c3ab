-- What is promised of alarms with their paths.
use Rattle.std.specs.Prelude.{List}
use Rattle.ck_graph.specs.declared.entries.Root.{Root}
use Rattle.ck_graph.specs.Flow.{Flow}
use Rattle.ck_segments.specs.Plain.{segments_of}
use Rattle.ck_segments.specs.Paths.{IsPathToAlarm}
use Rattle.ck_summary.specs.declared.reached.AlarmAt.{AlarmAt}
use Rattle.ck_summary.specs.Alarms.{alarm_of}
use Rattle.ck_texts.specs.declared.verdicts.Alarm.{Alarm}

abbrev pub at_of : Alarm → AlarmAt
at_of alarm = alarm.at

-- the alarm's path is one to it
abbrev pub HasPath : Flow → List Root → Alarm → Type 0
HasPath flow roots alarm = IsPathToAlarm flow roots (segments_of alarm.path) (alarm_of alarm.at)
