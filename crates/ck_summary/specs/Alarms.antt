-- Alarms as `alarms` answers them, and the words of its private contracts.
use Rattle.std.specs.Prelude.{◌≡◌, ◌↔◌, ◌⊎◌, ℕ, List, map, Some, Contains}
use Rattle.std.specs.List.{AllPairs}
use Rattle.std.specs.declared.cmp.Ordering.TheVariants.{Less}
use Rattle.ck_base.specs.declared.ops.Op.{Op}
use Rattle.ck_base.specs.declared.states.State.{State}
use Rattle.ck_base.specs.declared.states.Kind.{Kind}
use Rattle.ck_base.specs.declared.states.Outcome.TheVariants.{Alarm}
use Rattle.ck_base.specs.Act.{act, state_code}
use Rattle.ck_rows.specs.declared.rows.Rows.{Rows}
use Rattle.ck_rows.specs.Relation.{Relates}
use Rattle.ck_graph.specs.Flow.{Flow}
use Rattle.ck_graph.specs.Forbidden.{PointAlarm, alarm_cmp, alarm_in}
use Rattle.ck_summary.specs.declared.reached.AlarmAt.{AlarmAt}
use Rattle.ck_summary.specs.Solution.{rows_at}
use Rattle.ck_graph.specs.Steps.{kind_at}

abbrev pub alarm_of : AlarmAt → PointAlarm
alarm_of alarm = record { point = alarm.point.0; kind = alarm.kind }

abbrev pub alarms_of : List AlarmAt → List PointAlarm
alarms_of alarms = map alarm_of alarms

-- the table has a state at the alarm's point that raises it
pub record HasAlarm (flow : Flow) (table : List Rows) (alarm : AlarmAt) : Type 0 where
  pub from : ℕ
  pub state : State
  pub pair : Relates (rows_at table alarm.point.0) from (state_code state)
  pub raised : alarm_in (kind_at flow alarm.point.0) state ≡ Some alarm.kind

-- the alarms of a table, in any order
pub record AreFound (flow : Flow) (table : List Rows) (found : List AlarmAt) : Type 0 where
  pub all : (alarm : AlarmAt) → HasAlarm flow table alarm → Contains found alarm
  pub only : (alarm : AlarmAt) → Contains found alarm → HasAlarm flow table alarm

-- an op raises the alarm in a state in which a relation ends
pub record Raises (op : Op) (rows : Rows) (alarm : AlarmAt) : Type 0 where
  pub from : ℕ
  pub state : State
  pub pair : Relates rows from (state_code state)
  pub acts : act op state ≡ Alarm alarm.kind

-- an op raises an alarm of this kind in the state of this number, in which a relation ends
pub record RaisesIn (op : Op) (rows : Rows) (number : ℕ) (kind : Kind) : Type 0 where
  pub from : ℕ
  pub state : State
  pub code : state_code state ≡ number
  pub pair : Relates rows from number
  pub acts : act op state ≡ Alarm kind

-- the alarms of one point are added
pub record AddsAlarms (op : Op) (rows : Rows) (point : ℕ) (old new : List AlarmAt) : Type 0 where
  pub kept : (alarm : AlarmAt) → Contains old alarm → Contains new alarm
  pub added : (alarm : AlarmAt) → alarm.point.0 ≡ point → Raises op rows alarm → Contains new alarm
  pub only : (alarm : AlarmAt) → Contains new alarm →
      Contains old alarm ⊎ ((alarm.point.0 ≡ point) × Raises op rows alarm)

-- one list has the alarms of another, in the order of a report, each once
pub record IsInOrder (flow : Flow) (old new : List AlarmAt) : Type 0 where
  pub ordered : AllPairs (λ a b. alarm_cmp flow (alarm_of a) (alarm_of b) ≡ Less) new
  pub same : (alarm : AlarmAt) → Contains new alarm ↔ Contains old alarm
