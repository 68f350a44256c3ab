-- Projects by hand that meet what a report requires.
use Rattle.std.proofs.Common.{◌≡◌, ◌≤◌, ℕ, ◌<◌, Bool, true, false, List, length, refl, ap, ◌∙◌, arith}
use Rattle.std.specs.Prelude.{codes, map, slice_get}
use Rattle.std.specs.Bool.{OnTrue}
use Rattle.std.proofs.lemmas.List.Elements.{All-from_get_or}
use Rattle.ck_base.specs.declared.files.SourceFile.{SourceFile}
use Rattle.ck_base.specs.declared.refusals.Spot.{Spot}
use Rattle.ck_base.specs.declared.refusals.Spot.TheVariants as spot
use Rattle.ck_base.specs.declared.spans.Span.{Span}
use Rattle.ck_graph.specs.Flow.{Flow, no_point, point_at, point_count, function_count}
use Rattle.ck_lexer.specs.declared.places.PlaceMap.{PlaceMap}
use Rattle.ck_texts.specs.Placed.{AreNamesOf, HasName, IsMapped, IsSitePlaced}
use Rattle.ck_texts.specs.Views.{Names, file_of}
use Rattle.ck_texts_tests.specs.Fitting.{Fits, HasMap, IsSecond, IsSiteIn}

pub OnTrue-weaker : (b : Bool) (P Q : Type 0) → (P → Q) → OnTrue b P → OnTrue b Q
OnTrue-weaker true P Q f h = f h
OnTrue-weaker false P Q f h = h

placed : (maps : List PlaceMap) (text : List ℕ) (site : Spot) → HasMap maps text → IsSiteIn site (length text)
    → IsSitePlaced maps site
placed maps text spot.Nowhere has is = tt
placed maps text (spot.File n) has is = tt
placed maps text (spot.At span) has is = record {
  file = record { name = codes "main.i"; bytes = text };
  places = has.places;
  there = ap (slice_get maps) is.0 ∙ has.there;
  is = has.is;
  within = is.1;
}

-- points whose sites are in the one file and whose acts have their names
pub names_fit : (flow : Flow) (names : Names) (maps : List PlaceMap) (text : List ℕ) → HasMap maps text
    → length names.functions ≡ function_count flow
    → ((n : ℕ) → n < point_count flow → Fits names (length text) (point_at flow n)) → AreNamesOf flow names maps
unfolding point_at
names_fit flow names maps text has same fit = record {
  functions = same;
  places = All-from_get_or (λ point. IsSitePlaced maps point.site) flow.points no_point
      (λ n there. placed maps text (point_at flow n).site has (fit n there).site);
  acts = All-from_get_or (λ point. HasName names point.kind) flow.points no_point (λ n there. (fit n there).name);
}

pub OnTrue-from : (b : Bool) (P : Type 0) → (b ≡ true → P) → OnTrue b P
OnTrue-from true P f = f refl
OnTrue-from false P f = tt

-- a span in the second file
pub mapped : (files : List SourceFile) (maps : List PlaceMap) (text : List ℕ) (span : Span) → IsSecond files maps text
    → span.file ≡ 1 → span.start ≤ length text → IsMapped (map file_of files) maps span
mapped files maps text span has second within = record {
  file = has.file;
  there = ap (slice_get (map file_of files)) second ∙ has.there;
  places = has.places;
  mapped = ap (slice_get maps) second ∙ has.mapped;
  is = has.is;
  within = omega (arith, within, ap length has.bytes);
}
