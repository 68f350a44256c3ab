-- Names, lines and columns (docs/TOKENS.md, "Places"). Until a marker comes the name is the file's, and lines count
-- from 1.
-- A marker gives the name and the number of the next line, so it counts for the bytes after its line feed.
use Rattle.std.specs.Prelude.{◌≡◌, ◌≤◌, ◌<◌, ℕ, ◌+◌, true, List, length, take, drop, count_by}
use Rattle.std.specs.List.{prefix_len, suffix_len, slice_range}
use Rattle.ck_lexer.specs.Bytes.{is_line_feed, is_no_line_feed}
use Rattle.ck_lexer.specs.Cuts.{IsReached, is_clear}
use Rattle.ck_lexer.specs.Markers.{IsMarker}

pub record Place : Type 0 where
  pub name : List ℕ
  pub line : ℕ
  pub column : ℕ

-- a marker: the offset where its line ends, and what it gives
pub record Marker : Type 0 where
  pub end : ℕ
  pub number : ℕ
  pub name : List ℕ

-- a marker of the file: a lexeme begins at its `#`, and only blanks are before it on its line
pub record IsMarkerOf (bytes : List ℕ) (m : Marker) : Type 0 where
  pub start : ℕ
  pub within : start < length bytes
  pub reached : IsReached bytes start
  pub clear : is_clear (take start bytes) ≡ true
  pub end : m.end ≡ start + prefix_len is_no_line_feed (drop start bytes)
  pub text : IsMarker (take (prefix_len is_no_line_feed (drop start bytes)) (drop start bytes)) m.number m.name

-- how many line feeds these bytes have
abbrev pub line_feeds : List ℕ → ℕ
line_feeds bytes = count_by is_line_feed bytes

-- the distance of an offset from its line's start, plus 1
abbrev pub column_at : List ℕ → ℕ → ℕ
column_at bytes offset = suffix_len is_no_line_feed (take offset bytes) + 1

-- The place of an offset: of the byte there, or, where the offset is the number of bytes, of the file's end.
pub data IsPlace (name bytes : List ℕ) (offset : ℕ) : Place → Type 0 where
  -- no marker's line feed is before it
  of_file : ((m : Marker) → IsMarkerOf bytes m → m.end < offset → ⊥)
      → IsPlace name bytes offset
      (record { name = name; line = line_feeds (take offset bytes) + 1; column = column_at bytes offset })
  -- the last marker whose line feed is before it
  of_marker : (m : Marker) → IsMarkerOf bytes m → m.end < offset
      → ((n : Marker) → IsMarkerOf bytes n → n.end < offset → n.end ≤ m.end)
      → IsPlace name bytes offset
      (record {
        name = m.name;
        line = m.number + line_feeds (slice_range bytes
            (m.end + 1) offset);
        column = column_at bytes offset;
      })
