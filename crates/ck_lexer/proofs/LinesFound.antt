-- The lines found so far, a byte and a marker further on, and the places that they give.
use Rattle.std.proofs.Common.{◌≡◌, ℕ, ◌+◌, ◌-◌, ◌<◌, ◌≤◌, true, false, List, [], ◌∷◌, ◌++◌, length, get_or, slice_index}
use Rattle.std.proofs.Common.{⊎_elim, refl, sym, ap, ◌∙◌, subst, arith}
use Rattle.std.proofs.lemmas.Bool.{both_ways}
use Rattle.std.proofs.lemmas.List.{get_or_append_left, get_or_push, length_push}
use Rattle.std.proofs.lemmas.List.Elements.{All-contains, All-nil, All-push, All-weaker}
use Rattle.std.proofs.lemmas.List.Sorted.{IsNonDecreasingBy-push, IsNonDecreasingBy-short}
use Rattle.std.proofs.str.Laws.{order}
use Rattle.std.specs.List.{All}
use Rattle.std.specs.List.Sorted.{IsNonDecreasingBy}
use Rattle.ck_lexer.specs.Bytes.{is_line_feed}
use Rattle.ck_lexer.specs.Mapping.{AreLines, IsLastBefore, IsLineStart, NoMarkers, StartsBy}
use Rattle.ck_lexer.specs.PlaceMaps.{HasStart, IsLineOf, IsPlaceMapOf, NoFeeds, name_on, names_of, place_on, start_of}
use Rattle.ck_lexer.specs.Places.{IsMarkerOf, IsPlace, Marker, of_file}
use Rattle.ck_lexer.specs.declared.places.Line.{Line}
use Rattle.ck_lexer.specs.declared.places.PlaceMap.{PlaceMap}
use Rattle.ck_lexer.proofs.LineStarts.{line_from_start, line_with, marked_start, marker_feed, next_start}
use Rattle.ck_lexer.proofs.Tests.{no-test}

HasStart-push : (lines : List Line) (line : Line) (at : ℕ) → HasStart lines at → HasStart (lines ++ line ∷ []) at
HasStart-push lines line at has =
    let size : length (lines ++ line ∷ []) ≡ length lines + 1 = length_push lines line in
    (has.0, omega (arith, has.1), λ d. ap start_of (get_or_append_left lines (line ∷ []) d has.0 has.1) ∙ has.2 d)

HasStart-pushed : (lines : List Line) (line : Line) → HasStart (lines ++ line ∷ []) line.start
HasStart-pushed lines line =
    let size : length (lines ++ line ∷ []) ≡ length lines + 1 = length_push lines line in
    (length lines, omega arith, λ d. ap start_of (get_or_push lines line d (length lines) refl))

-- a line keeps its name where names are added
IsLineOf-named : (name bytes : List ℕ) (names : List (List ℕ)) (more : List ℕ) (line : Line)
    → IsLineOf name bytes names line → IsLineOf name bytes (names ++ more ∷ []) line
IsLineOf-named name bytes names more line is =
    let size : length (names ++ more ∷ []) ≡ length names + 1 = length_push names more in
    let same : name_on (names ++ more ∷ []) line ≡ name_on names line = get_or_append_left names
    (more ∷ []) [] line.name is.known in
    record {
      known = omega (arith, is.known);
      places = λ offset up within none. subst (λ text. IsPlace name bytes offset
          (record { name = text; line = line.number; column = offset - line.start + 1 })) (sym same)
          (is.places offset up within none);
    }

no_feeds_here : (bytes : List ℕ) (at : ℕ) → NoFeeds bytes at at
no_feeds_here bytes at k low high = absurd (omega arith)

no_markers_here : (bytes : List ℕ) (at : ℕ) → NoMarkers bytes at at
no_markers_here bytes at m is low high inside = omega arith

StartsBy-later : (a b : ℕ) → a ≤ b → (line : Line) → StartsBy a line → StartsBy b line
StartsBy-later a b le line by = omega arith

-- a byte that is no line feed
pub lines_on : (name bytes : List ℕ) (names : List (List ℕ)) (lines : List Line) (on : Line) (at : ℕ)
    → AreLines name bytes names lines on at → at < length bytes → is_line_feed (slice_index bytes at) ≡ false
    → AreLines name bytes names lines on (at + 1)
lines_on name bytes names lines on at are inside plain = record {
  within = omega arith;
  all = are.all;
  order = are.order;
  before = are.before;
  first = are.first;
  next = λ k less feed. ⊎_elim
      (λ (early : k < at). are.next k early feed)
      (λ (late : at ≤ k). let e : k ≡ at = omega arith in absurd
      (both_ways (is_line_feed (slice_index bytes k)) (ap (λ i. is_line_feed (slice_index bytes i)) e
      ∙ plain) feed))
      (order k at);
  start = are.start;
  begun = omega (arith, are.begun);
  here = λ k low high. ⊎_elim
      (λ (early : k < at). are.here k low early)
      (λ (late : at ≤ k). let e : k ≡ at = omega arith in ap (λ i. is_line_feed (slice_index bytes i)) e ∙ plain)
      (order k at);
  markers = λ m is low high within. ⊎_elim
      (λ (early : m.end < at). are.markers m is low early within)
      (λ (late : at ≤ m.end). let e : m.end ≡ at = omega arith in
      both_ways (is_line_feed (slice_index bytes m.end)) (ap (λ i. is_line_feed (slice_index bytes i)) e ∙ plain)
      (marker_feed bytes m is within))
      (order m.end at);
}

-- what a new line after the others needs
record IsNewLine (name bytes : List ℕ) (names : List (List ℕ)) (lines : List Line) (line : Line) : Type 0 where
  start : IsLineStart name bytes names line
  all : All (IsLineOf name bytes names) lines
  order : IsNonDecreasingBy start_of lines
  before : All (StartsBy line.start) lines
  first : HasStart lines 0
  next : (k : ℕ) → k + 1 < line.start → is_line_feed (slice_index bytes k) ≡ true → HasStart lines (k + 1)

line_added : (name bytes : List ℕ) (names : List (List ℕ)) (lines : List Line) (line : Line)
    → IsNewLine name bytes names lines line → AreLines name bytes names (lines ++ line ∷ []) line line.start
line_added name bytes names lines line new = record {
  within = new.start.within;
  all = All-push (IsLineOf name bytes names) lines line new.all (line_from_start name bytes names line new.start);
  order = IsNonDecreasingBy-push start_of lines line new.order
      (λ d some. new.before (length lines - 1) d (omega arith));
  before = All-push (StartsBy line.start) lines line new.before (omega arith);
  first = HasStart-push lines line 0 new.first;
  next = λ k less feed. ⊎_elim
      (λ (early : k + 1 < line.start). HasStart-push lines line (k + 1) (new.next k early feed))
      (λ (late : line.start ≤ k + 1). let e : line.start ≡ k + 1 = omega arith in
      subst (HasStart (lines ++ line ∷ [])) e (HasStart-pushed lines line))
      (order (k + 1) line.start);
  start = new.start;
  begun = omega arith;
  here = no_feeds_here bytes line.start;
  markers = no_markers_here bytes line.start;
}

-- a line feed that ends no marker
pub lines_next : (name bytes : List ℕ) (names : List (List ℕ)) (lines : List Line) (on : Line) (at : ℕ)
    → AreLines name bytes names lines on at → at < length bytes → is_line_feed (slice_index bytes at) ≡ true
    → NoMarkers bytes at (at + 1) → AreLines name bytes names
    (lines ++ line_with (at + 1) (on.number + 1) on.name ∷ []) (line_with (at + 1) (on.number + 1) on.name) (at + 1)
lines_next name bytes names lines on at are inside feed unmarked =
    let none : NoMarkers bytes on.start (at + 1) = λ m is low high within. ⊎_elim
    (λ (early : m.end < at). are.markers m is low early within)
    (λ (late : at ≤ m.end). unmarked m is late high within)
    (order m.end at) in
    let begun : on.start ≤ at + 1 = omega (arith, are.begun) in
    line_added name bytes names lines (line_with (at + 1) (on.number + 1) on.name) (record {
      start = next_start name bytes names on at are.start are.begun inside are.here feed none;
      all = are.all;
      order = are.order;
      before = All-weaker (StartsBy on.start) (StartsBy (at + 1))
          (StartsBy-later on.start (at + 1) begun) lines are.before;
      first = are.first;
      next = λ k less some. are.next k (omega arith) some;
    })

-- a marker and its line feed
pub lines_marked : (name bytes : List ℕ) (names : List (List ℕ)) (lines : List Line) (on : Line) (at : ℕ) (m : Marker)
    (k : ℕ) → AreLines name bytes names lines on at → IsMarkerOf bytes m → at ≤ m.end → m.end < length bytes
    → NoFeeds bytes at m.end → k ≡ length names → AreLines name bytes (names ++ m.name ∷ [])
    (lines ++ line_with (m.end + 1) m.number k ∷ []) (line_with (m.end + 1) m.number k) (m.end + 1)
lines_marked name bytes names lines on at m k are is up inside none last =
    let size : length (names ++ m.name ∷ []) ≡ length names + 1 = length_push names m.name in
    let begun : on.start ≤ m.end + 1 = omega (arith, are.begun) in
    line_added name bytes (names ++ m.name ∷ []) lines (line_with (m.end + 1) m.number k) (record {
      start = marked_start name bytes (names ++ m.name ∷ []) m k is inside (omega arith)
          (get_or_push names m.name [] k (sym last));
      all = All-weaker (IsLineOf name bytes names) (IsLineOf name bytes (names ++ m.name ∷ []))
          (IsLineOf-named name bytes names m.name) lines are.all;
      order = are.order;
      before = All-weaker (StartsBy on.start) (StartsBy (m.end + 1))
          (StartsBy-later on.start (m.end + 1) begun) lines are.before;
      first = are.first;
      next = λ i less some. ⊎_elim
          (λ (early : i < at). are.next i early some)
          (λ (late : at ≤ i). absurd (both_ways (is_line_feed (slice_index bytes i)) (none i late (omega arith)) some))
          (order i at);
    })

-- the first line
first_start : (name bytes : List ℕ) → IsLineStart name bytes (name ∷ []) (line_with 0 1 0)
first_start name bytes = record {
  known = omega arith;
  within = omega arith;
  begins = λ some. absurd (omega arith);
  place = of_file (λ m is less. omega arith);
}

pub lines_first : (name bytes : List ℕ) → AreLines name bytes (name ∷ []) (line_with 0 1 0 ∷ []) (line_with 0 1 0) 0
lines_first name bytes = record {
  within = omega arith;
  all = All-push (IsLineOf name bytes (name ∷ [])) [] (line_with 0 1 0) (All-nil (IsLineOf name bytes (name ∷ [])))
      (line_from_start name bytes (name ∷ []) (line_with 0 1 0) (first_start name bytes));
  order = IsNonDecreasingBy-short start_of (line_with 0 1 0 ∷ []) (omega arith);
  before = All-push (StartsBy 0) [] (line_with 0 1 0) (All-nil (StartsBy 0)) (omega arith);
  first = HasStart-pushed [] (line_with 0 1 0);
  next = λ k less feed. absurd (omega arith);
  start = first_start name bytes;
  begun = omega arith;
  here = no_feeds_here bytes 0;
  markers = no_markers_here bytes 0;
}

-- at the file's end
pub lines_end : (name bytes : List ℕ) (m : PlaceMap) (on : Line) (at : ℕ)
    → AreLines name bytes (names_of m.names.items) m.lines.items on at → length bytes ≤ at → length bytes ≤ 1048576
    → IsPlaceMapOf name bytes m
lines_end name bytes m on at are end small = record {
  small = small;
  lines = are.all;
  order = are.order;
  first = are.first;
  next = λ k inside feed. are.next k (omega arith) feed;
}

-- there is no line feed between the start of the last line before an offset and the offset
no_feeds_from : (name bytes : List ℕ) (m : PlaceMap) (offset : ℕ) (line : Line) → IsPlaceMapOf name bytes m
    → offset ≤ length bytes → IsLastBefore m.lines.items offset line → NoFeeds bytes line.start offset
no_feeds_from name bytes m offset line is within last at low high =
    no-test (is_line_feed (slice_index bytes at)) (λ feed.
    let has : HasStart m.lines.items (at + 1) = is.next at (omega arith) feed in
    let start : start_of (get_or m.lines.items has.0 line) ≡ at + 1 = has.2 line in
    let up : start_of (get_or m.lines.items has.0 line) ≤ line.start = last.last has.0 line has.1 (omega arith) in
    omega arith)

pub found_place : (name bytes : List ℕ) (m : PlaceMap) (offset : ℕ) (line : Line) → IsPlaceMapOf name bytes m
    → offset ≤ length bytes → IsLastBefore m.lines.items offset line
    → IsPlace name bytes offset (place_on (names_of m.names.items) line offset)
found_place name bytes m offset line is within last =
    let of_line : IsLineOf name bytes (names_of m.names.items) line = All-contains
    (IsLineOf name bytes (names_of m.names.items)) m.lines.items line is.lines last.among in
    of_line.places offset last.before within (no_feeds_from name bytes m offset line is within last)
