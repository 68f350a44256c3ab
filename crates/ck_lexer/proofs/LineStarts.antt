-- Where lines start: after a line feed, and after a marker's line feed.
use Rattle.std.proofs.Common.{◌≡◌, ℕ, ◌+◌, ◌-◌, ◌<◌, ◌≤◌, Bool, true, false, not, List, [], length, take, drop, get_or}
use Rattle.std.proofs.Common.{slice_index, length-drop, refl, sym, ap, ◌∙◌, subst, arith}
use Rattle.std.proofs.lemmas.Bool.{both_ways}
use Rattle.std.proofs.lemmas.List.{get_or-drop}
use Rattle.std.proofs.lemmas.List.Sums.{count_by_more_yes, prefix_len_stops}
use Rattle.std.specs.List.{prefix_len}
use Rattle.std.specs.Prelude.{slice_range}
use Rattle.ck_lexer.specs.Bytes.{is_line_feed, is_no_line_feed}
use Rattle.ck_lexer.specs.Mapping.{BeginsLine, IsLineStart, NoMarkers}
use Rattle.ck_lexer.specs.PlaceMaps.{IsLineOf, NoFeeds, place_on}
use Rattle.ck_lexer.specs.Places.{IsMarkerOf, IsPlace, Marker, column_at, line_feeds, of_marker}
use Rattle.ck_lexer.specs.declared.places.Line.{Line}
use Rattle.ck_lexer.proofs.Feeds.{column_is, feeds_between, feeds_same, place_on_from, place_read}

yes_from_not : (b : Bool) → not b ≡ false → b ≡ true
yes_from_not true e = refl
yes_from_not false e = absurd (cc)

-- a line that does not end the file ends with a line feed
pub line_end-feed : (bytes : List ℕ) (at end : ℕ) → end ≡ at + prefix_len is_no_line_feed (drop at bytes)
    → end < length bytes → is_line_feed (slice_index bytes end) ≡ true
line_end-feed bytes at end ends inside =
    let rest : List ℕ = drop at bytes in
    let size : ℕ = prefix_len is_no_line_feed rest in
    let all : length rest ≡ length bytes - at = length-drop at bytes in
    let stop : is_no_line_feed (get_or rest size 0) ≡ false = prefix_len_stops is_no_line_feed rest 0 (omega arith) in
    let there : get_or rest size 0 ≡ get_or bytes end 0 = get_or-drop at bytes size 0
    ∙ ap (λ k. get_or bytes k 0) (sym ends) in
    yes_from_not (is_line_feed (get_or bytes end 0)) (ap is_no_line_feed (sym there) ∙ stop)

-- a marker that does not end the file ends with one
pub marker_feed : (bytes : List ℕ) (m : Marker) → IsMarkerOf bytes m → m.end < length bytes
    → is_line_feed (slice_index bytes m.end) ≡ true
marker_feed bytes m is inside = line_end-feed bytes is.start m.end is.end inside

pub no_markers : (bytes : List ℕ) (from to : ℕ) → NoFeeds bytes from to → NoMarkers bytes from to
no_markers bytes from to none m is low high inside = both_ways (is_line_feed (slice_index bytes m.end))
    (none m.end low high) (marker_feed bytes m is inside)

-- a line has one name and one number up to its line feed
pub line_from_start : (name bytes : List ℕ) (names : List (List ℕ)) (line : Line) → IsLineStart name bytes names line
    → IsLineOf name bytes names line
line_from_start name bytes names line start = record {
  known = start.known;
  places = λ offset up within none.
      let lines : line_feeds (take offset bytes) ≡ line_feeds
      (take line.start bytes) = feeds_same bytes line.start offset up within none in
      place_on_from name bytes line.start offset (place_on names line line.start) line.number
      (offset - line.start + 1) up within (no_markers bytes line.start offset none) (omega arith)
      (column_is bytes line.start offset up within start.begins none) start.place;
}

abbrev pub line_with : ℕ → ℕ → ℕ → Line
line_with start number name = record { start = start; number = number; name = name }

nothing_here : (bytes : List ℕ) (at : ℕ) → NoFeeds bytes at at
nothing_here bytes at k low high = absurd (omega arith)

begins_after : (bytes : List ℕ) (at : ℕ) → is_line_feed (slice_index bytes at) ≡ true → BeginsLine bytes (at + 1)
begins_after bytes at feed some = let e : at + 1 - 1 ≡ at = omega arith in
    ap (λ k. is_line_feed (slice_index bytes k)) e ∙ feed

column_after : (bytes : List ℕ) (at : ℕ) → at < length bytes → is_line_feed (slice_index bytes at) ≡ true
    → column_at bytes (at + 1) ≡ at + 1 - (at + 1) + 1
column_after bytes at inside feed =
    column_is bytes (at + 1) (at + 1) (omega arith) (omega arith) (begins_after bytes at feed)
    (nothing_here bytes (at + 1))

-- the next line, where no marker ends the line before it
pub next_start : (name bytes : List ℕ) (names : List (List ℕ)) (line : Line) (at : ℕ)
    → IsLineStart name bytes names line → line.start ≤ at → at < length bytes → NoFeeds bytes line.start at
    → is_line_feed (slice_index bytes at) ≡ true → NoMarkers bytes line.start (at + 1)
    → IsLineStart name bytes names (line_with (at + 1) (line.number + 1) line.name)
next_start name bytes names line at start up inside none feed unmarked =
    let same : line_feeds (take at bytes) ≡ line_feeds (take line.start bytes) = feeds_same bytes line.start at up
    (omega arith) none in
    let more : line_feeds (take (at + 1) bytes) ≡ line_feeds
    (take at bytes) + 1 = count_by_more_yes is_line_feed bytes at 0 inside feed in
    record {
      known = start.known;
      within = omega arith;
      begins = begins_after bytes at feed;
      place = place_on_from name bytes line.start (at + 1) (place_on names line line.start) (line.number + 1)
          (at + 1 - (at + 1) + 1) (omega arith) (omega arith) unmarked (omega arith)
          (column_after bytes at inside feed) start.place;
    }

-- the line after a marker
pub marked_start : (name bytes : List ℕ) (names : List (List ℕ)) (m : Marker) (k : ℕ) → IsMarkerOf bytes m
    → m.end < length bytes → k < length names → get_or names k [] ≡ m.name
    → IsLineStart name bytes names (line_with (m.end + 1) m.number k)
marked_start name bytes names m k is inside known named =
    let feed = marker_feed bytes m is inside in
    let at : ℕ = m.end + 1 in
    let none : line_feeds (take at bytes) + line_feeds (slice_range bytes at at) ≡ line_feeds
    (take at bytes) = feeds_between bytes at at (omega arith) in
    let here : IsPlace name bytes at (place_on names (line_with at m.number k) at) =
    subst (λ text. IsPlace name bytes at (record { name = text; line = m.number; column = at - at + 1 })) (sym named)
    (place_read name bytes at m.name (m.number + line_feeds (slice_range bytes at at)) m.number (column_at bytes at)
    (at - at + 1) (omega arith) (column_after bytes m.end inside feed)
    (of_marker m is (omega arith) (λ n is_n less. omega arith))) in
    record {
      known = known;
      within = omega arith;
      begins = begins_after bytes m.end feed;
      place = here;
    }
