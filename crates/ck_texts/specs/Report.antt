-- The report of a verdict, line by line (docs/REPORT.md, "Rejected"). `at` says where spans are.
use Rattle.std.specs.Prelude.{ℕ, ◌+◌, ◌==◌, Bool, true, false, if◌then◌else◌, List, [], ◌∷◌, ◌++◌, codes, length}
use Rattle.std.specs.Prelude.{slice_index_or}
use Rattle.std.specs.Fmt.{decimal}
use Rattle.std.specs.Option.{option_map_or}
use Rattle.ck_base.specs.declared.ops.Op.{Op}
use Rattle.ck_base.specs.declared.ops.Op.TheVariants.{PairEnter, PairLeft}
use Rattle.ck_base.specs.declared.spans.FnId.{FnId}
use Rattle.ck_base.specs.declared.spans.Span.{Span}
use Rattle.ck_base.specs.declared.states.State.TheVariants.{TI}
use Rattle.ck_graph.specs.declared.entries.Entry.TheVariants.{Main}
use Rattle.ck_graph.specs.declared.entries.Root.{Root}
use Rattle.ck_graph.specs.declared.points.ActName.{ActName}
use Rattle.ck_graph.specs.declared.points.ActName.TheVariants as name
use Rattle.ck_graph.specs.declared.points.Edge.{Edge}
use Rattle.ck_graph.specs.declared.points.Label.{Label}
use Rattle.ck_graph.specs.declared.points.Label.TheVariants as label
use Rattle.ck_graph.specs.declared.points.PointKind.{PointKind}
use Rattle.ck_graph.specs.declared.points.PointKind.TheVariants as kind
use Rattle.ck_graph.specs.Flow.{Flow, point_at, function_at}
use Rattle.ck_kernel.specs.KernelTable.{call_at}
use Rattle.ck_lexer.specs.Places.{Place}
use Rattle.ck_segments.specs.Expansion.{goes_in}
use Rattle.ck_segments.specs.Plain.{PlainSegment}
use Rattle.ck_texts.specs.Lines.{line, first_line, site_text, kind_text, within_brackets, numbered}
use Rattle.ck_texts.specs.Views.{Names, PathToAlarm, Outcome, accepted, rejected}
use Rattle.ck_segments.specs.declared.segments.Step.{Step}
use Rattle.ck_segments.specs.declared.segments.Step.TheVariants as way
use Rattle.ck_summary.specs.declared.reached.AlarmAt.{AlarmAt}
use Rattle.ck_texts.specs.declared.verdicts.Counts.{Counts}

-- ---- Accepted

abbrev pub accepted_text : Counts → List ℕ
accepted_text counts =
    first_line ++ (line (codes "accepted") ++
    line (codes "files " ++ (decimal counts.files ++ (codes " functions " ++ (decimal counts.functions ++
    (codes " entries " ++ decimal counts.entries))))))

-- ---- Names

abbrev pub function_name : Names → FnId → List ℕ
function_name names function = slice_index_or names.functions function.0 []

-- what an act is called
abbrev pub act_name : Names → ActName → List ℕ
act_name names (name.Kernel row) = option_map_or (λ call. call.name) (call_at row) []
act_name names (name.Outside number) = slice_index_or names.outside number []
act_name names name.Return = codes "return"
act_name names name.ThreadReturn = codes "thread return"
act_name names name.Entry = codes "entry"

-- what the act of a point is called; other points have no name
abbrev pub called_name : Names → PointKind → List ℕ
called_name names (kind.Act op act) = act_name names act
called_name names _ = []

-- the word of a choice, which is the label of the edge that is taken
abbrev pub choice_word : Label → List ℕ
choice_word label.Plain = []
choice_word label.True = codes "true"
choice_word label.False = codes "false"
choice_word (label.Case number) = codes "case " ++ decimal (number + 1)
choice_word label.Default = codes "default"
choice_word (label.Order number) = codes "order " ++ decimal number
choice_word (label.Pick number) = decimal number

-- ---- Steps. `site` is the point's place as it is printed.

-- the acts at the begin and the end of a function that keeps a status, which aren't printed
abbrev pub keeps_status : Op → Bool
keeps_status PairEnter = true
keeps_status PairLeft = true
keeps_status _ = false

-- an act that is passed
abbrev pub act_line : Names → List ℕ → Op → ActName → List ℕ
act_line names site op act =
    if keeps_status op then [] else line (codes "  act " ++ (site ++ (codes " " ++ act_name names act)))

-- the one way on is no choice
abbrev pub is_plain : Label → Bool
is_plain label.Plain = true
is_plain _ = false

-- an edge that is taken at a plain point
abbrev pub choose_line : List ℕ → Label → List ℕ
choose_line site chosen =
    if is_plain chosen then [] else line (codes "  choose " ++ (site ++ (codes " " ++ choice_word chosen)))

-- a call that returns, and the segment of what happens inside. Segments are counted from 0, and printed from 1
abbrev pub call_line : Names → List ℕ → FnId → ℕ → List ℕ
call_line names site target segment =
    line (codes "  call " ++ (site ++ (codes " " ++ (function_name names target ++ (codes " " ++
    decimal (segment + 1))))))

-- a call in which the next segment goes on
abbrev pub enter_line : Names → List ℕ → FnId → List ℕ
enter_line names site target = line (codes "  enter " ++ (site ++ (codes " " ++ function_name names target)))

-- the edge of this number that leads from a point; a number that none has is read as a plain edge back to the point
abbrev pub edge_at : Flow → ℕ → ℕ → Edge
edge_at flow point k =
    slice_index_or (point_at flow point).edges k (record { to = record { 0 = point }; label = label.Plain })

-- an edge that is taken at a point of a kind
abbrev pub edge_line : Names → List ℕ → PointKind → Edge → List ℕ
edge_line names site kind.Plain edge = choose_line site edge.label
edge_line names site (kind.Act op act) edge = act_line names site op act
edge_line names site _ edge = []

-- the point after a step: where the edge leads that is taken, or after a call that returns where the call's edge does
abbrev pub after_step : Flow → ℕ → Step → ℕ
after_step flow point (way.Edge k) = (edge_at flow point k).to.0
after_step flow point (way.Call target segment) = (edge_at flow point 0).to.0
after_step flow point (way.Enter target) = point

-- the place of a point
abbrev pub site : Flow → (Span → Place) → ℕ → List ℕ
site flow at point = site_text at (point_at flow point).site

module _ (flow : Flow) (names : Names) (at : Span → Place) where
  -- a step that is taken at a point
  abbrev pub step_line : ℕ → Step → List ℕ
  step_line point (way.Edge k) = edge_line names (site flow at point) (point_at flow point).kind (edge_at flow point k)
  step_line point (way.Call target segment) = call_line names (site flow at point) target segment
  step_line point (way.Enter target) = enter_line names (site flow at point) target

  -- steps from a point on
  abbrev pub step_lines : ℕ → List Step → List ℕ
  step_lines point [] = []
  step_lines point (step ∷ steps) = step_line point step ++ step_lines (after_step flow point step) steps

-- ---- Segments

-- how a segment ends: the last at the alarm, one that goes into a call with no line more, and any other by returning
abbrev pub ending : Bool → Bool → List ℕ
ending true enters = line (codes "  alarm")
ending false true = []
ending false false = line (codes "  return")

-- a segment's number and function
abbrev pub heading : Names → ℕ → FnId → List ℕ
heading names number function =
    line (codes "segment " ++ (decimal number ++ (codes " " ++ function_name names function)))

module _ (flow : Flow) (names : Names) (at : Span → Place) where
  -- a segment and its number among so many
  abbrev pub segment_text : ℕ → ℕ → PlainSegment → List ℕ
  segment_text count number segment =
      heading names number segment.function ++
      (step_lines flow names at (function_at flow segment.function.0).first.0 segment.steps ++
      ending (number == count) (goes_in segment.steps))

-- ---- Alarms

-- a root's function is called as the entry in brackets
abbrev pub entry_line : Names → FnId → List ℕ
entry_line names function = line (codes "entry " ++ within_brackets (function_name names function))

-- what a number that no root has is read as
abbrev pub no_root : Root
no_root = record { entry = Main; function = record { 0 = 0 }; start = TI }

abbrev pub root_function : List Root → ℕ → FnId
root_function roots root = (slice_index_or roots root no_root).function

module _ (flow : Flow) (names : Names) (at : Span → Place) where
  -- an alarm and its number: its kind, its place and the name of the call
  abbrev pub alarm_line : ℕ → AlarmAt → List ℕ
  alarm_line number alarm =
      line (codes "alarm " ++ (decimal number ++ (codes " " ++ (kind_text alarm.kind ++ (codes " " ++
      (site flow at alarm.point.0 ++ (codes " " ++ called_name names (point_at flow alarm.point.0).kind)))))))

module _ (flow : Flow) (roots : List Root) (names : Names) (at : Span → Place) where
  -- an alarm and its number, with the way to it
  abbrev pub alarm_text : ℕ → PathToAlarm → List ℕ
  alarm_text number alarm =
      alarm_line flow names at number alarm.at ++ (entry_line names (root_function roots alarm.path.root) ++
      numbered (segment_text flow names at (length alarm.path.list)) 1 alarm.path.list)

  abbrev pub rejected_text : List PathToAlarm → List ℕ
  rejected_text alarms =
      first_line ++ (line (codes "rejected " ++ decimal (length alarms)) ++ numbered alarm_text 1 alarms)

  -- the report of a verdict
  abbrev pub report_text : Outcome → List ℕ
  report_text (accepted counts) = accepted_text counts
  report_text (rejected alarms) = rejected_text alarms
