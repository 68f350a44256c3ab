-- A project by hand that meets what a report requires.
use Rattle.std.specs.Prelude.{◌≡◌, ◌≤◌, ◌<◌, ℕ, List, codes, map, All, Some, slice_get}
use Rattle.ck_base.specs.declared.files.SourceFile.{SourceFile}
use Rattle.ck_base.specs.declared.refusals.Spot.{Spot}
use Rattle.ck_base.specs.declared.refusals.Spot.TheVariants.{At}
use Rattle.ck_graph.specs.declared.entries.Root.{Root}
use Rattle.ck_graph.specs.Flow.{Flow, Point, function_count}
use Rattle.ck_lexer.specs.PlaceMaps.{IsPlaceMapOf}
use Rattle.ck_lexer.specs.declared.places.PlaceMap.{PlaceMap}
use Rattle.ck_texts.specs.Placed.{AreNamesOf, HasName, IsOutcomeOf}
use Rattle.ck_texts.specs.Views.{File, Names, Outcome, file_of}

-- the first map is that of main.i with this text
pub record HasMap (maps : List PlaceMap) (text : List ℕ) : Type 0 where
  pub places : PlaceMap
  pub there : slice_get maps 0 ≡ Some places
  pub is : IsPlaceMapOf (codes "main.i") text places

-- a site is in the first file, which is so long
abbrev pub IsSiteIn : Spot → ℕ → Type 0
IsSiteIn (At span) size = (span.file ≡ 0) × (span.start ≤ size)
IsSiteIn _ size = Unit {0}

-- a point's site is in the first file, and its act has its name
pub record Fits (names : Names) (size : ℕ) (point : Point) : Type 0 where
  pub site : IsSiteIn point.site size
  pub name : HasName names point.kind

-- a project meets what a report requires
pub record AllFits (flow : Flow) (list : List Root) (called : Names) (maps : List PlaceMap) (outcome : Outcome)
    : Type 0 where
  pub names : AreNamesOf flow called maps
  pub roots : All (λ root. root.function.0 < function_count flow) list
  pub verdict : IsOutcomeOf flow list outcome

-- the second of these files has this text, and the second map is its
pub record IsSecond (files : List SourceFile) (maps : List PlaceMap) (text : List ℕ) : Type 0 where
  pub file : File
  pub there : slice_get (map file_of files) 1 ≡ Some file
  pub bytes : file.bytes ≡ text
  pub places : PlaceMap
  pub mapped : slice_get maps 1 ≡ Some places
  pub is : IsPlaceMapOf file.name file.bytes places
