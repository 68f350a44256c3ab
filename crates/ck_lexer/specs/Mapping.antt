-- How the code finds a file's lines. Private contracts alone speak of it; proofs/ join it with the definitions.
use Rattle.std.specs.Prelude.{◌≡◌, ◌≤◌, ◌<◌, ℕ, ◌+◌, ◌-◌, true, ◌⊎◌, List, length, take, slice_index, slice_index_or}
use Rattle.std.specs.Prelude.{Some, None}
use Rattle.std.specs.List.{All, Contains, slice_range}
use Rattle.std.specs.List.Sorted.{IsNonDecreasingBy}
use Rattle.ck_lexer.specs.Bytes.{is_line_feed}
use Rattle.ck_lexer.specs.Cuts.{IsLexeme, IsReached, is_clear}
use Rattle.ck_lexer.specs.PlaceMaps.{HasStart, IsLineOf, NoFeeds, names_of, place_on, start_of}
use Rattle.ck_lexer.specs.Places.{IsMarkerOf, IsPlace, Marker}
use Rattle.ck_lexer.specs.Scanning.{marked_parts, marker_of}
use Rattle.ck_lexer.specs.declared.lexemes.Lexeme.TheVariants.{Trivia}
use Rattle.ck_lexer.specs.declared.markers.Marked.{Marked}
use Rattle.ck_lexer.specs.declared.places.Line.{Line}
use Rattle.ck_lexer.specs.declared.places.PlaceMap.{PlaceMap}

-- these bytes of a file are a marker, and its line feed comes after them
pub record IsMarked (bytes : List ℕ) (at end : ℕ) (marked : Marked) : Type 0 where
  pub after : end < length bytes
  pub clear : is_clear (take at bytes) ≡ true
  pub read : marker_of (slice_range bytes at end) ≡ Some (marked_parts marked)

abbrev pub IsUnmarked : List ℕ → ℕ → ℕ → Type 0
IsUnmarked bytes at end =
    end < length bytes → is_clear (take at bytes) ≡ true → marker_of (slice_range bytes at end) ≡ None

-- no marker ends between two offsets
abbrev pub NoMarkers : List ℕ → ℕ → ℕ → Type 0
NoMarkers bytes from to = (m : Marker) → IsMarkerOf bytes m → from ≤ m.end → m.end < to → m.end < length bytes → ⊥

-- a line feed is right before this offset, or it is the file's start
abbrev pub BeginsLine : List ℕ → ℕ → Type 0
BeginsLine bytes at = 0 < at → is_line_feed (slice_index bytes (at - 1)) ≡ true

abbrev pub IsNumbered : Line → Type 0
IsNumbered line = line.number ≤ 1000000000 + line.start

-- where a line starts
pub record IsLineStart (name bytes : List ℕ) (names : List (List ℕ)) (line : Line) : Type 0 where
  pub known : line.name < length names
  pub within : line.start ≤ length bytes
  pub begins : BeginsLine bytes line.start
  pub place : IsPlace name bytes line.start (place_on names line line.start)

abbrev pub StartsBy : ℕ → Line → Type 0
StartsBy at line = line.start ≤ at

-- the lines of a file up to an offset, and the line that the offset is on
pub record AreLines (name bytes : List ℕ) (names : List (List ℕ)) (lines : List Line) (on : Line)
    (at : ℕ) : Type 0 where
  pub within : at ≤ length bytes
  pub all : All (IsLineOf name bytes names) lines
  pub order : IsNonDecreasingBy start_of lines
  pub before : All (StartsBy on.start) lines
  pub first : HasStart lines 0
  pub next : (k : ℕ) → k < at → is_line_feed (slice_index bytes k) ≡ true → HasStart lines (k + 1)
  pub start : IsLineStart name bytes names on
  pub begun : on.start ≤ at
  pub here : NoFeeds bytes on.start at
  pub markers : NoMarkers bytes on.start at

-- between two offsets without a marker's end, lines go on
abbrev pub GoesOn : List ℕ → List Line → Line → ℕ → List Line → Line → ℕ → Type 0
GoesOn bytes lines on at more next to =
    (name : List ℕ) (names : List (List ℕ))
    → NoMarkers bytes at to → AreLines name bytes names lines on at → AreLines name bytes names more next to

-- no marker's line feed is at this offset
abbrev pub IsFresh : List ℕ → ℕ → Type 0
IsFresh bytes at = (m : Marker) → IsMarkerOf bytes m → m.end ≡ at → m.end < length bytes → ⊥

-- the map of a file up to an offset where a lexeme begins that is no marker's line feed, and the line that it is on
pub record IsMapped (name bytes : List ℕ) (map : PlaceMap) (on : Line) (at : ℕ) : Type 0 where
  pub found : AreLines name bytes (names_of map.names.items) map.lines.items on at
  pub numbered : IsNumbered on
  pub reached : IsReached bytes at
  pub fresh : IsFresh bytes at

-- an offset, or the one after it where it is that of a line feed
abbrev pub IsAtOrAfterFeed : List ℕ → ℕ → ℕ → Type 0
IsAtOrAfterFeed bytes end at = (at ≡ end) ⊎ IsLexeme bytes end at Trivia

-- the last of these lines that starts at an offset or before it
pub record IsLastBefore (lines : List Line) (at : ℕ) (line : Line) : Type 0 where
  pub among : Contains lines line
  pub before : line.start ≤ at
  pub last : (k : ℕ) (d : Line) → k < length lines → start_of (slice_index_or lines k d) ≤ at
      → start_of (slice_index_or lines k d) ≤ line.start
