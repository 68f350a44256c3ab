-- What a path to an alarm is.
use Rattle.std.specs.Prelude.{List}
use Rattle.ck_graph.specs.declared.entries.Root.{Root}
use Rattle.ck_graph.specs.Flow.{Flow}
use Rattle.ck_graph.specs.Forbidden.{PointAlarm}
use Rattle.ck_segments.specs.Plain.{PlainSegments}
use Rattle.ck_segments.specs.Expansion.{LeadsToAlarm}
use Rattle.ck_segments.specs.Form.{AreInForm}

-- the segments are in form, and expand to a walk from one of these roots to the alarm
pub record IsPathToAlarm (flow : Flow) (roots : List Root) (segments : PlainSegments) (alarm : PointAlarm) : Type
    0 where
  pub form : AreInForm flow segments.list
  pub leads : LeadsToAlarm flow roots segments alarm
