-- What a place is found from: a file's lines, each with its start, its number and its name's index among the names
-- (docs/TOKENS.md, "Places").
use Rattle.std.specs.Prelude.{◌≡◌, ◌≤◌, ◌<◌, ℕ, ◌+◌, ◌-◌, true, false, List, [], length, map, slice_index}
use Rattle.std.specs.Prelude.{slice_index_or}
use Rattle.std.specs.List.{All, HoldsAt}
use Rattle.std.specs.List.Sorted.{IsNonDecreasingBy}
use Rattle.std.specs.declared.alloc.Global.{Global}
use Rattle.std.specs.declared.vec.Vec.{Vec}
use Rattle.ck_lexer.specs.Bytes.{is_line_feed, most_bytes}
use Rattle.ck_lexer.specs.Places.{IsPlace, Place}
use Rattle.ck_lexer.specs.declared.places.Line.{Line}
use Rattle.ck_lexer.specs.declared.places.PlaceMap.{PlaceMap}
use Rattle.ck_lexer.specs.declared.places.PlaceName.{PlaceName}

abbrev pub place_of : PlaceName → Place
place_of p = record { name = p.name.now; line = p.line; column = p.column }

-- there is no line feed between two offsets
abbrev pub NoFeeds : List ℕ → ℕ → ℕ → Type 0
NoFeeds bytes from to = (at : ℕ) → from ≤ at → at < to → is_line_feed (slice_index bytes at) ≡ false

-- the bytes of each name
abbrev pub items_of : Vec ℕ Global → List ℕ
items_of v = v.items

abbrev pub names_of : List (Vec ℕ Global) → List (List ℕ)
names_of names = map items_of names

abbrev pub start_of : Line → ℕ
start_of line = line.start

abbrev pub name_on : List (List ℕ) → Line → List ℕ
name_on names line = slice_index_or names line.name []

-- the place of an offset on a line
abbrev pub place_on : List (List ℕ) → Line → ℕ → Place
place_on names line offset = record { name = name_on names line; line = line.number; column = offset - line.start + 1 }

-- a line of a file: from its start up to its line feed, or the file's end, each offset has its name and its number
pub record IsLineOf (name bytes : List ℕ) (names : List (List ℕ)) (line : Line) : Type 0 where
  pub known : line.name < length names
  pub places : (offset : ℕ) → line.start ≤ offset → offset ≤ length bytes → NoFeeds bytes line.start offset
      → IsPlace name bytes offset (place_on names line offset)

abbrev pub StartsAt : ℕ → Line → Type 0
StartsAt at line = line.start ≡ at

-- one of these lines starts at this offset
abbrev pub HasStart : List Line → ℕ → Type 0
HasStart lines at = (k : ℕ) × (k < length lines) × HoldsAt (StartsAt at) lines k

-- The lines of a file of at most 1,048,576 bytes, whose columns therefore fit 32 bits: each is a line of it, they are
-- in
-- order, one starts at the file's start, and one after each line feed.
pub record IsPlaceMapOf (name bytes : List ℕ) (m : PlaceMap) : Type 0 where
  pub small : length bytes ≤ most_bytes
  pub lines : All (IsLineOf name bytes (names_of m.names.items)) m.lines.items
  pub order : IsNonDecreasingBy start_of m.lines.items
  pub first : HasStart m.lines.items 0
  pub next : (at : ℕ) → at < length bytes → is_line_feed (slice_index bytes at) ≡ true → HasStart m.lines.items (at + 1)
