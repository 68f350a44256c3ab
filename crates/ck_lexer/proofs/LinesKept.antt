-- The map of a file up to an offset, and a lexeme further on.
use Rattle.std.proofs.Common.{◌≡◌, ℕ, ◌+◌, ◌<◌, ◌≤◌, true, List, [], ◌∷◌, ◌++◌, length, drop, slice_index, false, refl}
use Rattle.std.proofs.Common.{sym, subst, arith}
use Rattle.std.specs.List.{prefix_len}
use Rattle.ck_lexer.specs.Bytes.{is_line_feed, is_no_line_feed}
use Rattle.ck_lexer.specs.Cuts.{IsReached, IsLexeme}
use Rattle.ck_lexer.specs.Mapping.{AreLines, GoesOn, IsMapped, IsMarked, IsNumbered, IsUnmarked}
use Rattle.ck_lexer.specs.PlaceMaps.{names_of}
use Rattle.ck_lexer.specs.Places.{IsMarkerOf}
use Rattle.ck_lexer.specs.declared.markers.Marked.{Marked}
use Rattle.ck_lexer.specs.declared.lexemes.Lexeme.{Lexeme}
use Rattle.ck_lexer.specs.declared.lexemes.Lexeme.TheVariants.{Trivia}
use Rattle.ck_lexer.specs.declared.places.Line.{Line}
use Rattle.ck_lexer.specs.declared.places.PlaceMap.{PlaceMap}
use Rattle.ck_lexer.proofs.LineStarts.{line_end-feed, line_with, marker_feed}
use Rattle.ck_lexer.proofs.LinesFound.{lines_first, lines_marked, lines_next, lines_on}
use Rattle.ck_lexer.proofs.LexemeMarkers.{feed_lexeme, fresh_at_start, fresh_after_feed, fresh_after_unmarked}
use Rattle.ck_lexer.proofs.LexemeMarkers.{marked_feeds, marked_marker, marked_end, marked_small, marker_with}
use Rattle.ck_lexer.proofs.LexemeMarkers.{no_markers_in_lexeme, reached_more}
use Rattle.ck_lexer.proofs.Sizes.{IsLexeme-lies}

pub mapped_first : (name bytes : List ℕ) (map : PlaceMap) → names_of map.names.items ≡ name ∷ []
    → map.lines.items ≡ line_with 0 1 0 ∷ []
    → IsMapped name bytes map (line_with 0 1 0) 0
mapped_first name bytes map named lined = record {
  found = subst (λ xs. AreLines name bytes xs map.lines.items (line_with 0 1 0) 0) (sym named)
      (subst (λ ls. AreLines name bytes (name ∷ []) ls (line_with 0 1 0) 0) (sym lined) (lines_first name bytes));
  numbered = omega arith;
  reached = ([], refl);
  fresh = fresh_at_start bytes;
}

-- a lexeme that is no marker, or one that ends the file
pub mapped_on : (name bytes : List ℕ) (map more : PlaceMap) (on next : Line) (at end : ℕ) (lexeme : Lexeme)
    → names_of more.names.items ≡ names_of map.names.items → IsMapped name bytes map on at
    → IsLexeme bytes at end lexeme
    → IsUnmarked bytes at end → IsNumbered next → GoesOn bytes map.lines.items on at more.lines.items next end
    → IsMapped name bytes more next end
mapped_on name bytes map more on next at end lexeme named mapped found unmarked numbered goes = record {
  found = subst (λ xs. AreLines name bytes xs more.lines.items next end) (sym named)
      (goes name (names_of map.names.items)
      (no_markers_in_lexeme bytes at end lexeme mapped.reached mapped.fresh found) mapped.found);
  numbered = numbered;
  reached = reached_more bytes at end lexeme mapped.reached found;
  fresh = fresh_after_unmarked bytes at end lexeme mapped.reached found unmarked;
}

-- a marker and its line feed
pub mapped_marked : (name bytes : List ℕ) (map more : PlaceMap) (on : Line) (at end k : ℕ) (lexeme : Lexeme)
    (marked : Marked)
    → names_of more.names.items ≡ names_of map.names.items ++ marked.name.now ∷ []
    → more.lines.items ≡ map.lines.items ++ line_with (end + 1) marked.number k ∷ []
    → IsMapped name bytes map on at → IsLexeme bytes at end lexeme → IsMarked bytes at end marked
    → k ≡ length (names_of map.names.items)
    → IsMapped name bytes more (line_with (end + 1) marked.number k) (end + 1)
mapped_marked name bytes map more on at end k lexeme marked named lined mapped found is last =
    let names : List (List ℕ) = names_of map.names.items in
    let line : Line = line_with (end + 1) marked.number k in
    let lies = IsLexeme-lies bytes at end lexeme found in
    let inside : at < length bytes = omega (arith, lies.rises, lies.within) in
    let up : at < end = lies.rises in
    let marker : IsMarkerOf bytes
    (marker_with end marked) = marked_marker bytes at end lexeme marked inside mapped.reached found is in
    let small = marked_small bytes at end marked is in
    let feed : is_line_feed (slice_index bytes end) ≡ true = marker_feed bytes
    (marker_with end marked) marker is.after in
    let here : IsReached bytes end = reached_more bytes at end lexeme mapped.reached found in
    let none = marked_feeds bytes at end (marked_end bytes at end lexeme marked found is) in
    record {
      found = subst (λ xs. AreLines name bytes xs more.lines.items line (end + 1)) (sym named)
          (subst (λ ls. AreLines name bytes (names ++ marked.name.now ∷ []) ls line (end + 1)) (sym lined)
          (lines_marked name bytes names map.lines.items on at (marker_with end marked) k mapped.found marker
          (omega arith) is.after none last));
      numbered = omega arith;
      reached = reached_more bytes end (end + 1) Trivia here (feed_lexeme bytes end is.after feed);
      fresh = fresh_after_feed bytes end is.after here feed;
    }

-- after a marker there is a line feed
pub marked-feed : (bytes : List ℕ) (at end : ℕ) (lexeme : Lexeme) (marked : Marked) → IsLexeme bytes at end lexeme
    → IsMarked bytes at end marked
    → IsLexeme bytes end (end + 1) Trivia
marked-feed bytes at end lexeme marked found is =
    let ends : end ≡ at + prefix_len is_no_line_feed (drop at bytes) = marked_end bytes at end lexeme marked found is in
    feed_lexeme bytes end is.after (line_end-feed bytes at end ends is.after)

-- the lines that follow a line between two offsets
pub record Follows (bytes : List ℕ) (lines : List Line) (on : Line) (at : ℕ) (more : List Line) (next : Line)
    (k : ℕ) : Type 0 where
  pub numbered : IsNumbered next
  pub begun : next.start ≤ k
  pub found : GoesOn bytes lines on at more next k

pub follows_start : (bytes : List ℕ) (lines : List Line) (on : Line) (at : ℕ) → IsNumbered on → on.start ≤ at
    → Follows bytes lines on at lines on at
follows_start bytes lines on at numbered begun = record {
  numbered = numbered;
  begun = begun;
  found = λ name names none are. are;
}

pub follows_plain : (bytes : List ℕ) (lines more : List Line) (on next : Line) (at k : ℕ)
    → Follows bytes lines on at more next k → k < length bytes → is_line_feed (slice_index bytes k) ≡ false
    → Follows bytes lines on at more next (k + 1)
follows_plain bytes lines more on next at k follows inside plain = record {
  numbered = follows.numbered;
  begun = omega (arith, follows.begun);
  found = λ name names none are. lines_on name bytes names more next k
      (follows.found name names (λ m is low high. none m is low (omega arith)) are) inside plain;
}

pub follows_byte : (bytes : List ℕ) (lines more after : List Line) (on next then_on : Line) (at k : ℕ)
    → Follows bytes lines on at more next k → k < length bytes → is_line_feed (slice_index bytes k) ≡ false
    → after ≡ more → then_on ≡ next → Follows bytes lines on at after then_on (k + 1)
follows_byte bytes lines more after on next then_on at k follows inside plain same_lines same_line =
    subst (λ ls. Follows bytes lines on at ls then_on (k + 1)) (sym same_lines)
    (subst (λ l. Follows bytes lines on at more l (k + 1)) (sym same_line)
    (follows_plain bytes lines more on next at k follows inside plain))

follows_next : (bytes : List ℕ) (lines more : List Line) (on next : Line) (at k : ℕ)
    → Follows bytes lines on at more next k → at ≤ k → k < length bytes → is_line_feed (slice_index bytes k) ≡ true
    → Follows bytes lines on at (more ++ line_with (k + 1) (next.number + 1) next.name ∷ [])
    (line_with (k + 1) (next.number + 1) next.name) (k + 1)
follows_next bytes lines more on next at k follows up inside feed = record {
  numbered = omega (arith, follows.numbered, follows.begun);
  begun = omega arith;
  found = λ name names none are. lines_next name bytes names more next k
      (follows.found name names (λ m is low high. none m is low (omega arith)) are) inside feed
      (λ m is low high. none m is (omega arith) high);
}

pub follows_feed : (bytes : List ℕ) (lines more after : List Line) (on next then_on : Line) (at k : ℕ)
    → Follows bytes lines on at more next k → at ≤ k → k < length bytes → is_line_feed (slice_index bytes k) ≡ true
    → after ≡ more ++ line_with (k + 1) (next.number + 1) next.name ∷ []
    → then_on ≡ line_with (k + 1) (next.number + 1) next.name → Follows bytes lines on at after then_on (k + 1)
follows_feed bytes lines more after on next then_on at k follows up inside feed same_lines same_line =
    subst (λ ls. Follows bytes lines on at ls then_on (k + 1)) (sym same_lines)
    (subst (λ l. Follows bytes lines on at (more ++ line_with (k + 1) (next.number + 1) next.name ∷ []) l (k + 1))
    (sym same_line)
    (follows_next bytes lines more on next at k follows up inside feed))
