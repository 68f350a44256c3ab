-- Texts whose places are those of the project's files: the place of a byte is the name, line and column that the
-- lexer's definition gives it, and so is the place of a file's end.
use Rattle.std.specs.Prelude.{◌≡◌, ◌≤◌, ◌<◌, ℕ, List, length, All, Some, slice_get, codes}
use Rattle.ck_base.specs.declared.refusals.Refusal.{Refusal}
use Rattle.ck_base.specs.declared.refusals.Spot.{Spot}
use Rattle.ck_base.specs.declared.refusals.Spot.TheVariants as spot
use Rattle.ck_base.specs.declared.spans.Span.{Span}
use Rattle.ck_graph.specs.declared.entries.Root.{Root}
use Rattle.ck_graph.specs.declared.points.ActName.{ActName}
use Rattle.ck_graph.specs.declared.points.ActName.TheVariants as name
use Rattle.ck_graph.specs.declared.points.PointKind.{PointKind}
use Rattle.ck_graph.specs.declared.points.PointKind.TheVariants as kind
use Rattle.ck_graph.specs.Flow.{Flow, point_count, function_count}
use Rattle.ck_kernel.specs.KernelTable.{IsRow}
use Rattle.ck_lexer.specs.PlaceMaps.{IsPlaceMapOf}
use Rattle.ck_lexer.specs.Places.{Place, IsPlace}
use Rattle.ck_lexer.specs.declared.places.PlaceMap.{PlaceMap}
use Rattle.ck_segments.specs.declared.segments.Step.{Step}
use Rattle.ck_segments.specs.declared.segments.Step.TheVariants as way
use Rattle.ck_segments.specs.Plain.{PlainSegment}
use Rattle.ck_texts.specs.Lines.{place_text}
use Rattle.ck_texts.specs.Report.{report_text}
use Rattle.ck_texts.specs.Texts.{refusal_text}
use Rattle.ck_texts.specs.Views.{File, Names, PathToAlarm, Outcome, accepted, rejected}

-- ---- Places

-- a span begins in one of the files, or at its end
pub record IsWithin (files : List File) (span : Span) : Type 0 where
  pub file : File
  pub there : slice_get files span.file ≡ Some file
  pub within : span.start ≤ length file.bytes

-- the place where a span of these files begins
pub record IsPlaceOf (files : List File) (span : Span) (place : Place) : Type 0 where
  pub file : File
  pub there : slice_get files span.file ≡ Some file
  pub is : IsPlace file.name file.bytes span.start place

-- each span within the files is where this function says
abbrev pub SaysPlaces : List File → (Span → Place) → Type 0
SaysPlaces files at = (span : Span) → IsWithin files span → IsPlaceOf files span (at span)

-- the maps of these files, one for each
pub record AreMapsOf (files : List File) (maps : List PlaceMap) : Type 0 where
  pub same : length maps ≡ length files
  pub each : (n : ℕ) (file : File) (map : PlaceMap) → slice_get files n ≡ Some file → slice_get maps n ≡ Some map
      → IsPlaceMapOf file.name file.bytes map

-- there is a map for the file of a span, and the span begins within that file
pub record HasPlace (maps : List PlaceMap) (span : Span) : Type 0 where
  pub file : File
  pub places : PlaceMap
  pub there : slice_get maps span.file ≡ Some places
  pub is : IsPlaceMapOf file.name file.bytes places
  pub within : span.start ≤ length file.bytes

-- ---- The report

-- a point has its place, if it has one, and its name, if it has one
abbrev pub IsSitePlaced : List PlaceMap → Spot → Type 0
IsSitePlaced maps (spot.At span) = HasPlace maps span
IsSitePlaced maps _ = Unit {0}

abbrev pub HasActName : Names → ActName → Type 0
HasActName names (name.Kernel row) = IsRow row
HasActName names (name.Outside number) = number < length names.outside
HasActName names _ = Unit {0}

abbrev pub HasName : Names → PointKind → Type 0
HasName names (kind.Act op act) = HasActName names act
HasName names _ = Unit {0}

-- the names and the places are those of a graph
pub record AreNamesOf (flow : Flow) (names : Names) (maps : List PlaceMap) : Type 0 where
  pub functions : length names.functions ≡ function_count flow
  pub places : All (λ point. IsSitePlaced maps point.site) flow.points
  pub acts : All (λ point. HasName names point.kind) flow.points

-- a step names a function of the graph, where it names one
abbrev pub IsStepOf : Flow → Step → Type 0
IsStepOf flow (way.Edge k) = Unit {0}
IsStepOf flow (way.Call target segment) = target.0 < function_count flow
IsStepOf flow (way.Enter target) = target.0 < function_count flow

pub record IsSegmentOf (flow : Flow) (segment : PlainSegment) : Type 0 where
  pub function : segment.function.0 < function_count flow
  pub steps : All (IsStepOf flow) segment.steps

-- the numbers in an alarm and its path name things of the graph and a root
pub record IsPathOf (flow : Flow) (roots : List Root) (alarm : PathToAlarm) : Type 0 where
  pub point : alarm.at.point.0 < point_count flow
  pub root : alarm.path.root < length roots
  pub segments : All (IsSegmentOf flow) alarm.path.list

abbrev pub IsOutcomeOf : Flow → List Root → Outcome → Type 0
IsOutcomeOf flow roots (accepted counts) = Unit {0}
IsOutcomeOf flow roots (rejected alarms) = All (IsPathOf flow roots) alarms

-- the report of a verdict on the project of these files
pub record IsReport (files : List File) (flow : Flow) (roots : List Root) (names : Names) (verdict : Outcome)
    (text : List ℕ) : Type 0 where
  pub at : Span → Place
  pub places : SaysPlaces files at
  pub written : text ≡ report_text flow roots names at verdict

-- ---- The refusal

-- what is printed for a spot of these files: nothing's place is `-`, a file's is its name
pub data IsSpotText (files : List File) : Spot → List ℕ → Type 0 where
  nowhere : IsSpotText files spot.Nowhere (codes "-")
  of_file : (n : ℕ) (file : File) → slice_get files n ≡ Some file → IsSpotText files (spot.File n) file.name
  at_place : (span : Span) (place : Place) → IsPlaceOf files span place
      → IsSpotText files (spot.At span) (place_text place)

-- a span begins in one of the files, or at its end, and the file's map is there
pub record IsMapped (files : List File) (maps : List PlaceMap) (span : Span) : Type 0 where
  pub file : File
  pub there : slice_get files span.file ≡ Some file
  pub places : PlaceMap
  pub mapped : slice_get maps span.file ≡ Some places
  pub is : IsPlaceMapOf file.name file.bytes places
  pub within : span.start ≤ length file.bytes

-- the number of a spot's file is that of a file, and its offset lies within that file's bytes
abbrev pub IsSpotOf : List File → List PlaceMap → Spot → Type 0
IsSpotOf files maps spot.Nowhere = Unit {0}
IsSpotOf files maps (spot.File n) = n < length files
IsSpotOf files maps (spot.At span) = IsMapped files maps span

-- the text of a refusal of these files
pub record IsRefusalText (files : List File) (refusal : Refusal) (text : List ℕ) : Type 0 where
  pub place : List ℕ
  pub there : IsSpotText files refusal.at place
  pub written : text ≡ refusal_text refusal.kind place
