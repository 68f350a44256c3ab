-- Forbidden configurations, and the alarms that walks from the roots reach, in the order of a report.
use Rattle.std.specs.Prelude.{◌≡◌, ◌↔◌, ℕ, List, Contains, Option, Some, None}
use Rattle.std.specs.List.{AllPairs}
use Rattle.std.specs.Ordering.{nat_cmp, ordering_then}
use Rattle.std.specs.Cmp.Lexicographic.{slice_cmp}
use Rattle.std.specs.declared.cmp.Ordering.{Ordering}
use Rattle.std.specs.declared.cmp.Ordering.TheVariants.{Less}
use Rattle.ck_base.specs.declared.refusals.Spot.{Spot}
use Rattle.ck_base.specs.declared.refusals.Spot.TheVariants.{At}
use Rattle.ck_base.specs.declared.states.State.{State}
use Rattle.ck_base.specs.declared.states.Kind.{Kind}
use Rattle.ck_base.specs.declared.states.Kind.TheVariants.{Sv, Order, P}
use Rattle.ck_base.specs.declared.states.Outcome.{Outcome}
use Rattle.ck_base.specs.declared.states.Outcome.TheVariants.{Alarm}
use Rattle.ck_base.specs.Act.{act}
use Rattle.ck_graph.specs.declared.points.PointKind.{PointKind}
use Rattle.ck_graph.specs.declared.points.PointKind.TheVariants.{Act}
use Rattle.ck_graph.specs.declared.entries.Root.{Root}
use Rattle.ck_graph.specs.Flow.{Flow, Point, point_at}
use Rattle.ck_graph.specs.Walk.{Configuration, Reaches}

-- the alarm that an outcome is
abbrev pub alarm_of_outcome : Outcome → Option Kind
alarm_of_outcome (Alarm kind) = Some kind
alarm_of_outcome _ = None

-- the alarm that a point raises in a state
abbrev pub alarm_in : PointKind → State → Option Kind
alarm_in (Act op name) state = alarm_of_outcome (act op state)
alarm_in _ state = None

-- the configuration is forbidden: its running function is at an act that raises this alarm
abbrev pub IsForbidden : Flow → Configuration → Kind → Type 0
IsForbidden flow c kind = alarm_in (point_at flow c.top.point).kind c.state ≡ Some kind

-- an alarm at a point
pub record PointAlarm : Type 0 where
  pub point : ℕ
  pub kind : Kind

-- a walk from one of the roots reaches a forbidden configuration with this alarm
pub record ReachesAlarm (flow : Flow) (roots : List Root) (alarm : PointAlarm) : Type 0 where
  pub configuration : Configuration
  pub reached : Reaches flow roots configuration
  pub there : configuration.top.point ≡ alarm.point
  pub forbidden : IsForbidden flow configuration alarm.kind

-- the place in its file at which a site starts, and 0 where there is none
abbrev pub offset_of : Spot → ℕ
offset_of (At span) = span.start
offset_of _ = 0

-- the kernel's halts SV#1 to SV#11 come first, then the priority order violation ORDER, then the protocol alarms
-- P#1 to P#8
abbrev pub class_of : Kind → ℕ
class_of (Sv n) = 0
class_of Order = 1
class_of (P n) = 2

abbrev pub number_of : Kind → ℕ
number_of (Sv n) = n
number_of Order = 0
number_of (P n) = n

abbrev pub kind_cmp : Kind → Kind → Ordering
kind_cmp a b = ordering_then (nat_cmp (class_of a) (class_of b)) (nat_cmp (number_of a) (number_of b))

-- which of two points a report names first: by function, then by the place in the text, then by the orders round them
abbrev pub place_cmp : Point → Point → Ordering
place_cmp a b =
    ordering_then (nat_cmp a.function.0 b.function.0)
    (ordering_then (nat_cmp (offset_of a.site) (offset_of b.site)) (slice_cmp nat_cmp a.order b.order))

-- which of two alarms comes first: by their points, then by the points' numbers, then by kind
abbrev pub alarm_cmp : Flow → PointAlarm → PointAlarm → Ordering
alarm_cmp flow a b =
    ordering_then (place_cmp (point_at flow a.point) (point_at flow b.point))
    (ordering_then (nat_cmp a.point b.point) (kind_cmp a.kind b.kind))

-- the alarms that walks from the roots reach, all of them, in order, each once
pub record AreAlarms (flow : Flow) (roots : List Root) (alarms : List PointAlarm) : Type 0 where
  pub ordered : AllPairs (λ a b. alarm_cmp flow a b ≡ Less) alarms
  pub exactly : (alarm : PointAlarm) → Contains alarms alarm ↔ ReachesAlarm flow roots alarm

-- no graph and roots have two lists of alarms
abbrev pub HaveOneAlarmList : Type 0
HaveOneAlarmList =
    (flow : Flow) (roots : List Root) (xs ys : List PointAlarm) →
    AreAlarms flow roots xs → AreAlarms flow roots ys → xs ≡ ys
