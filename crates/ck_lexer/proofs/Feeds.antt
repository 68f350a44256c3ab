-- Line feeds up to an offset, columns, and the place of a later offset.
use Rattle.std.proofs.Common.{◌≡◌, ℕ, zero, suc, ◌+◌, ◌-◌, ◌<◌, ◌≤◌, Bool, true, false, cond, not, List, length, take}
use Rattle.std.proofs.Common.{get_or, ⊎_elim, refl, sym, ap, ◌∙◌, subst, arith}
use Rattle.std.proofs.Math.Seq.{take-add}
use Rattle.std.proofs.str.Laws.{order}
use Rattle.std.proofs.lemmas.List.{length-take-le, get_or-take}
use Rattle.std.proofs.lemmas.List.Sums.{count_by_more_no, sum_by-append, suffix_len_is}
use Rattle.std.specs.Prelude.{slice_range}
use Rattle.ck_lexer.specs.Bytes.{is_line_feed, is_no_line_feed}
use Rattle.ck_lexer.specs.Mapping.{BeginsLine, NoMarkers}
use Rattle.ck_lexer.specs.PlaceMaps.{NoFeeds}
use Rattle.ck_lexer.specs.Places.{IsPlace, Place, column_at, line_feeds, of_file, of_marker}

abbrev feed_counts : ℕ → ℕ
feed_counts b = cond (is_line_feed b) 1 0

pub feeds_between : (bytes : List ℕ) (from to : ℕ) → from ≤ to
    → line_feeds (take from bytes) + line_feeds (slice_range bytes from to) ≡ line_feeds (take to bytes)
feeds_between bytes from to up =
    let whole : from + (to - from) ≡ to = omega arith in
    sym (sum_by-append feed_counts (take from bytes) (slice_range bytes from to))
    ∙ (ap line_feeds (sym (take-add from (to - from) bytes)) ∙ ap (λ n. line_feeds (take n bytes)) whole)

feeds_along : (bytes : List ℕ) (from n : ℕ) → from + n ≤ length bytes → NoFeeds bytes from (from + n)
    → line_feeds (take (from + n) bytes) ≡ line_feeds (take from bytes)
feeds_along bytes from zero within none = let e : from + 0 ≡ from = omega arith in ap (λ k. line_feeds (take k bytes)) e
feeds_along bytes from (suc n) within none =
    let e : from + suc n ≡ (from + n) + 1 = omega arith in
    let inside : from + n < length bytes = omega arith in
    ap (λ k. line_feeds (take k bytes)) e
    ∙ (count_by_more_no is_line_feed bytes (from + n) 0 inside (none (from + n) (omega arith) (omega arith))
    ∙ feeds_along bytes from n (omega arith) (λ at low high. none at low (omega arith)))

pub feeds_same : (bytes : List ℕ) (from to : ℕ) → from ≤ to → to ≤ length bytes → NoFeeds bytes from to
    → line_feeds (take to bytes) ≡ line_feeds (take from bytes)
feeds_same bytes from to up within none =
    let e : from + (to - from) ≡ to = omega arith in
    let P : ℕ → Type 0 = λ k. k ≤ length bytes → NoFeeds bytes from k
    → line_feeds (take k bytes) ≡ line_feeds (take from bytes) in
    subst P e (feeds_along bytes from (to - from)) within none

not_no : (b : Bool) → b ≡ false → not b ≡ true
not_no b e = rw e refl

not_yes : (b : Bool) → b ≡ true → not b ≡ false
not_yes b e = rw e refl

pub column_is : (bytes : List ℕ) (start offset : ℕ) → start ≤ offset → offset ≤ length bytes → BeginsLine bytes start
    → NoFeeds bytes start offset → column_at bytes offset ≡ offset - start + 1
column_is bytes start offset up within begins none =
    let size : length (take offset bytes) ≡ offset = length-take-le offset bytes within in
    let suffix = suffix_len_is is_no_line_feed (take offset bytes) start 0
    (omega arith)
    (λ k low high. ap is_no_line_feed (get_or-take offset bytes k 0 (omega arith))
    ∙ not_no (is_line_feed (get_or bytes k 0)) (none k low (omega arith)))
    (λ some. ap is_no_line_feed (get_or-take offset bytes (start - 1) 0 (omega arith))
    ∙ not_yes (is_line_feed (get_or bytes (start - 1) 0)) (begins some)) in
    omega (arith, suffix)

abbrev pub place_with : List ℕ → ℕ → ℕ → Place
place_with name line column = record { name = name; line = line; column = column }

pub place_read : (name bytes : List ℕ) (offset : ℕ) (text : List ℕ) (k l c d : ℕ) → k ≡ l → c ≡ d
    → IsPlace name bytes offset (place_with text k c) → IsPlace name bytes offset (place_with text l d)
place_read name bytes offset text k l c d line column is =
    subst (λ x. IsPlace name bytes offset (place_with text x d)) line
    (subst (λ x. IsPlace name bytes offset (place_with text k x)) column is)

-- where no marker ends between two offsets, the second has the first's name, and a line more for each line feed
pub place_on_from : (name bytes : List ℕ) (from to : ℕ) (p : Place) (line column : ℕ) → from ≤ to → to ≤ length bytes
    → NoMarkers bytes from to → line_feeds (take to bytes) + p.line ≡ line_feeds (take from bytes) + line
    → column_at bytes to ≡ column → IsPlace name bytes from p → IsPlace name bytes to (place_with p.name line column)
place_on_from name bytes from to _ line column up within none lines columns (of_file before) =
    place_read name bytes to name (line_feeds (take to bytes) + 1) line (column_at bytes to) column
    (omega arith) columns
    (of_file (λ m is less. ⊎_elim (λ (early : m.end < from). before m is early)
    (λ (late : from ≤ m.end). none m is late less (omega arith)) (order m.end from)))
place_on_from name bytes from to _ line column up within none lines columns (of_marker m is less last) =
    let near : line_feeds (take (m.end + 1) bytes) + line_feeds (slice_range bytes (m.end + 1) from) ≡ line_feeds
    (take from bytes) = feeds_between bytes (m.end + 1) from (omega arith) in
    let far : line_feeds (take (m.end + 1) bytes) + line_feeds (slice_range bytes (m.end + 1) to) ≡ line_feeds
    (take to bytes) = feeds_between bytes (m.end + 1) to (omega arith) in
    place_read name bytes to m.name (m.number + line_feeds (slice_range bytes (m.end + 1) to)) line
    (column_at bytes to) column (omega arith) columns
    (of_marker m is (omega arith) (λ n is_n less_n. ⊎_elim (λ (early : n.end < from). last n is_n early)
    (λ (late : from ≤ n.end). absurd (none n is_n late less_n (omega arith))) (order n.end from)))
