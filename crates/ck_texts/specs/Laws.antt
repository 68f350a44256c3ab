-- What the definitions fix: no verdict and no refusal has two texts. And how a path meets what a report requires.
use Rattle.std.specs.Prelude.{◌≡◌, ℕ, List, All}
use Rattle.ck_base.specs.declared.refusals.Refusal.{Refusal}
use Rattle.ck_base.specs.declared.refusals.Spot.{Spot}
use Rattle.ck_base.specs.declared.refusals.Spot.TheVariants.{At}
use Rattle.ck_graph.specs.declared.entries.Root.{Root}
use Rattle.ck_graph.specs.Faults.{IsSound}
use Rattle.ck_graph.specs.Flow.{Flow}
use Rattle.ck_segments.specs.Form.{AreInForm}
use Rattle.ck_segments.specs.Expansion.{LeadsToAlarm}
use Rattle.ck_summary.specs.Alarms.{alarm_of}
use Rattle.ck_texts.specs.Placed.{IsPathOf, IsRefusalText, IsReport, IsWithin}
use Rattle.ck_texts.specs.Views.{File, Names, Outcome, PathToAlarm}

-- a site begins in one of the files, if it has bytes
abbrev pub IsSiteWithin : List File → Spot → Type 0
IsSiteWithin files (At span) = IsWithin files span
IsSiteWithin files _ = Unit {0}

abbrev pub AreSitesWithin : List File → Flow → Type 0
AreSitesWithin files flow = All (λ point. IsSiteWithin files point.site) flow.points

-- a verdict has one report
abbrev pub ReportsHaveOneText : Type 0
ReportsHaveOneText =
    (files : List File) (flow : Flow) (roots : List Root) (names : Names) (verdict : Outcome) (text other : List ℕ)
    → AreSitesWithin files flow → IsReport files flow roots names verdict text
    → IsReport files flow roots names verdict other → text ≡ other

-- a refusal has one text
abbrev pub RefusalsHaveOneText : Type 0
RefusalsHaveOneText =
    (files : List File) (refusal : Refusal) (text other : List ℕ) → IsRefusalText files refusal text
    → IsRefusalText files refusal other → text ≡ other

-- a path that is in form and leads to its alarm meets what a report requires of it
abbrev pub PathsMeetReports : Type 0
PathsMeetReports =
    (flow : Flow) (roots : List Root) (alarm : PathToAlarm) → IsSound flow → AreInForm flow alarm.path.list
    → LeadsToAlarm flow roots alarm.path (alarm_of alarm.at) → IsPathOf flow roots alarm
