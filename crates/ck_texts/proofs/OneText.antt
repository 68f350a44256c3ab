-- A verdict has one report, and a refusal one text: no offset of a file has two places.
use Rattle.std.proofs.Common.{◌≡◌, ℕ, ◌+◌, ◌<◌, ◌≤◌, List, [], ◌∷◌, ◌++◌, length, refl, sym, ap, ◌∙◌, subst, ⊎_elim}
use Rattle.std.specs.Prelude.{codes, ◌==◌}
use Rattle.std.specs.Fmt.{decimal}
use Rattle.std.proofs.lemmas.List.{get_or_past}
use Rattle.std.proofs.str.Laws.{order}
use Rattle.ck_base.specs.declared.refusals.Spot.{Spot}
use Rattle.ck_base.specs.declared.refusals.Spot.TheVariants as spot
use Rattle.ck_base.specs.declared.spans.Span.{Span}
use Rattle.ck_graph.specs.declared.entries.Root.{Root}
use Rattle.ck_graph.specs.Flow.{Flow, no_point, point_at, function_at}
use Rattle.ck_lexer.specs.Places.{Place, IsPlace}
use Rattle.ck_lexer.proofs.OnePlace.{one_place}
use Rattle.ck_segments.specs.Expansion.{goes_in}
use Rattle.ck_segments.specs.Plain.{PlainSegment}
use Rattle.ck_segments.specs.declared.segments.Step.{Step}
use Rattle.ck_segments.specs.declared.segments.Step.TheVariants as way
use Rattle.ck_summary.specs.declared.reached.AlarmAt.{AlarmAt}
use Rattle.ck_texts.specs.Laws.{AreSitesWithin, IsSiteWithin, RefusalsHaveOneText, ReportsHaveOneText}
use Rattle.ck_texts.specs.Lines.{first_line, line, place_text, site_text, numbered}
use Rattle.ck_texts.specs.Placed.{IsPlaceOf, IsSpotText, SaysPlaces, nowhere, of_file, at_place}
use Rattle.ck_texts.specs.Report as spec
use Rattle.ck_texts.specs.Texts.{refusal_text}
use Rattle.ck_texts.specs.Views.{File, Names, Outcome, PathToAlarm, accepted, rejected}

-- a span has one place
one_place_of : (files : List File) (span : Span) (p q : Place) → IsPlaceOf files span p → IsPlaceOf files span q → p ≡ q
one_place_of files span p q is_p is_q =
    let same : is_q.file ≡ is_p.file = cc (is_p.there, is_q.there) in
    one_place is_p.file.name is_p.file.bytes span.start p q is_p.is
    (subst (λ file. IsPlace file.name file.bytes span.start q) same is_q.is)

-- ---- Two functions that say where spans are

module _ (files : List File) (flow : Flow) (at to : Span → Place) (within : AreSitesWithin files flow)
    (says : SaysPlaces files at) (says_to : SaysPlaces files to) where
  same_spot : (site : Spot) → IsSiteWithin files site → site_text at site ≡ site_text to site
  same_spot spot.Nowhere is = refl
  same_spot (spot.File n) is = refl
  same_spot (spot.At span) is =
      ap place_text (one_place_of files span (at span) (to span) (says span is) (says_to span is))

  same_site : (point : ℕ) → spec.site flow at point ≡ spec.site flow to point
  unfolding point_at
  same_site point = ⊎_elim
      (λ (there : point < length flow.points). same_spot (point_at flow point).site (within point no_point there))
      (λ (past : length flow.points ≤ point).
      let none : point_at flow point ≡ no_point = get_or_past flow.points point no_point past in
      rw none refl)
      (order point (length flow.points))

  same_step : (names : Names) (point : ℕ) (step : Step)
      → spec.step_line flow names at point step ≡ spec.step_line flow names to point step
  same_step names point (way.Edge k) =
      ap (λ s. spec.edge_line names s (point_at flow point).kind (spec.edge_at flow point k)) (same_site point)
  same_step names point (way.Call target segment) = ap (λ s. spec.call_line names s target segment) (same_site point)
  same_step names point (way.Enter target) = ap (λ s. spec.enter_line names s target) (same_site point)

  same_steps : (names : Names) (point : ℕ) (steps : List Step)
      → spec.step_lines flow names at point steps ≡ spec.step_lines flow names to point steps
  same_steps names point [] = refl
  same_steps names point (step ∷ steps) =
      ap (λ t. t ++ spec.step_lines flow names at (spec.after_step flow point step) steps) (same_step names point step)
      ∙ ap (λ t. spec.step_line flow names to point step ++ t)
      (same_steps names (spec.after_step flow point step) steps)

  same_segment : (names : Names) (count number : ℕ) (segment : PlainSegment)
      → spec.segment_text flow names at count number segment ≡ spec.segment_text flow names to count number segment
  same_segment names count number segment =
      let end = spec.ending (number == count) (goes_in segment.steps) in
      ap (λ t. spec.heading names number segment.function ++ (t ++ end))
      (same_steps names (function_at flow segment.function.0).first.0 segment.steps)

  same_alarm_line : (names : Names) (number : ℕ) (alarm : AlarmAt)
      → spec.alarm_line flow names at number alarm ≡ spec.alarm_line flow names to number alarm
  same_alarm_line names number alarm = rw (same_site alarm.point.0) refl

numbered_same : {A : Type 0} (one other : ℕ → A → List ℕ) → ((n : ℕ) (x : A) → one n x ≡ other n x) → (n : ℕ)
    (xs : List A)
    → numbered one n xs ≡ numbered other n xs
numbered_same one other same n [] = refl
numbered_same one other same n (x ∷ xs) =
    ap (λ t. t ++ numbered one (n + 1) xs) (same n x)
    ∙ ap (λ t. other n x ++ t) (numbered_same one other same (n + 1) xs)

module _ (files : List File) (flow : Flow) (at to : Span → Place) (within : AreSitesWithin files flow)
    (says : SaysPlaces files at) (says_to : SaysPlaces files to) where
  same_alarm : (roots : List Root) (names : Names) (number : ℕ) (alarm : PathToAlarm)
      → spec.alarm_text flow roots names at number alarm ≡ spec.alarm_text flow roots names to number alarm
  same_alarm roots names number alarm =
      let count = length alarm.path.list in
      let entry = spec.entry_line names (spec.root_function roots alarm.path.root) in
      ap (λ t. t ++ (entry ++ numbered (spec.segment_text flow names at count) 1 alarm.path.list))
      (same_alarm_line files flow at to within says says_to names number alarm.at)
      ∙ ap (λ t. spec.alarm_line flow names to number alarm.at ++ (entry ++ t))
      (numbered_same (spec.segment_text flow names at count) (spec.segment_text flow names to count)
      (same_segment files flow at to within says says_to names count) 1 alarm.path.list)

  same_report : (roots : List Root) (names : Names) (verdict : Outcome)
      → spec.report_text flow roots names at verdict ≡ spec.report_text flow roots names to verdict
  same_report roots names (accepted counts) = refl
  same_report roots names (rejected alarms) =
      ap (λ t. first_line ++ (line (codes "rejected " ++ decimal (length alarms)) ++ t))
      (numbered_same (spec.alarm_text flow roots names at) (spec.alarm_text flow roots names to)
      (same_alarm roots names) 1 alarms)

-- ---- The theorems

pub one_report : ReportsHaveOneText
one_report files flow roots names verdict text other within is is_other =
    is.written ∙ (same_report files flow is.at is_other.at within is.places is_other.places roots names verdict
    ∙ sym is_other.written)

one_spot_text : (files : List File) (site : Spot) (p q : List ℕ) → IsSpotText files site p → IsSpotText files site q
    → p ≡ q
one_spot_text files _ _ _ nowhere nowhere = refl
one_spot_text files _ _ _ (of_file n file there) (of_file _ other also) =
    let same : file ≡ other = cc in ap (λ f. f.name) same
one_spot_text files _ _ _ (at_place span place is) (at_place _ other also) =
    ap place_text (one_place_of files span place other is also)

pub one_refusal : RefusalsHaveOneText
one_refusal files refusal text other is is_other =
    is.written ∙ (ap (refusal_text refusal.kind)
    (one_spot_text files refusal.at is.place is_other.place is.there is_other.there) ∙ sym is_other.written)
