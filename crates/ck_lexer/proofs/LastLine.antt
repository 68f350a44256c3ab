-- The last line that starts at an offset or before it, by the count of those that do.
use Rattle.std.proofs.Common.{◌≡◌, ℕ, ◌-◌, ◌<◌, ◌≤◌, true, false, leb, leb-true, List, length, get_or, ⊎_elim, sym, ap}
use Rattle.std.proofs.Common.{arith}
use Rattle.std.proofs.lemmas.Bool.{both_ways, le-leb}
use Rattle.std.proofs.lemmas.List.{get_or_default}
use Rattle.std.proofs.str.Laws.{order}
use Rattle.std.specs.List.Sorted.{IsNonDecreasingBy, IsPartitionPoint}
use Rattle.ck_lexer.specs.Mapping.{IsLastBefore}
use Rattle.ck_lexer.specs.PlaceMaps.{HasStart, start_of}
use Rattle.ck_lexer.specs.declared.places.Line.{Line}

abbrev pub starts_by : ℕ → Line → Type 0
starts_by offset line = leb (start_of line) offset ≡ true

abbrev pub starts_after : ℕ → Line → Type 0
starts_after offset line = leb (start_of line) offset ≡ false

-- a line that starts by the offset is among those that are counted
counted : (lines : List Line) (offset count k : ℕ) (d : Line)
    → IsPartitionPoint (starts_by offset) (starts_after offset) lines count → k < length lines
    → start_of (get_or lines k d) ≤ offset → k < count
counted lines offset count k d point inside by =
    ⊎_elim
    (λ (early : k < count). early)
    (λ (late : count ≤ k). absurd (both_ways (leb (start_of (get_or lines k d)) offset) (point.1 k d late inside)
    (le-leb (start_of (get_or lines k d)) offset by)))
    (order k count)

pub last_counted : (lines : List Line) (offset count : ℕ) (line : Line) → IsNonDecreasingBy start_of lines
    → HasStart lines 0 → count ≤ length lines → IsPartitionPoint (starts_by offset) (starts_after offset) lines count
    → line ≡ get_or lines (count - 1) line → IsLastBefore lines offset line
last_counted lines offset count line up first within point is =
    let start : start_of (get_or lines first.0 line) ≡ 0 = first.2 line in
    let some : first.0 < count = counted lines offset count first.0 line point first.1 (omega arith) in
    let by : start_of (get_or lines (count - 1) line) ≤ offset = leb-true
    (start_of (get_or lines (count - 1) line)) offset (point.0 (count - 1) line (omega arith) (omega arith)) in
    let same : start_of line ≡ start_of (get_or lines (count - 1) line) = ap start_of is in
    record {
      among = (count - 1, omega arith, sym is);
      before = omega arith;
      last = λ k d inside low.
          let early : k < count = counted lines offset count k d point inside low in
          let rises : start_of (get_or lines k d) ≤ start_of (get_or lines (count - 1) d) = up k (count - 1) d
          (omega arith) (omega arith) in
          let default : start_of (get_or lines (count - 1) d) ≡ start_of (get_or lines (count - 1) line) = ap start_of
          (get_or_default lines (count - 1) d line (omega arith)) in
          omega arith;
    }
