-- Which markers end within a lexeme: its own line, where it is a marker, and no other.
use Rattle.std.proofs.Common.{◌≡◌, ℕ, ◌+◌, ◌-◌, ◌<◌, ◌≤◌, Bool, true, List, [], ◌∷◌, ◌++◌, length, take, drop}
use Rattle.std.proofs.Common.{slice_index, get_or, Some, ◌⊎◌, inl, inr, ⊎_elim, refl, sym, ap, ◌∙◌, subst, arith}
use Rattle.std.proofs.Common.{length-drop, eq-or-lt_of_le}
use Rattle.std.proofs.lemmas.List.{get_or-drop}
use Rattle.std.proofs.lemmas.List.Sums.{prefix_len_passes}
use Rattle.std.proofs.lemmas.Option.{none-some}
use Rattle.std.proofs.str.Laws.{order}
use Rattle.std.specs.List.{prefix_len}
use Rattle.std.specs.Prelude.{slice_range}
use Rattle.ck_lexer.specs.Bytes.{is_line_feed, is_no_line_feed}
use Rattle.ck_lexer.specs.Cuts.{AreLexemes, Ended, IsReached, IsLexeme, is_clear}
use Rattle.ck_lexer.specs.Mapping.{IsFresh, IsMarked, IsUnmarked, NoMarkers}
use Rattle.ck_lexer.specs.Markers.{IsMarker, hash}
use Rattle.ck_lexer.specs.PlaceMaps.{NoFeeds}
use Rattle.ck_lexer.specs.Lexemes.{Hash, WhiteSpace, IsLexemeOf, beginning_of, white_space_size}
use Rattle.ck_lexer.specs.Places.{IsMarkerOf, Marker}
use Rattle.ck_lexer.specs.Scanning.{marker_of}
use Rattle.ck_lexer.specs.declared.markers.Marked.{Marked}
use Rattle.ck_lexer.specs.declared.lexemes.Lexeme.{Lexeme}
use Rattle.ck_lexer.specs.declared.lexemes.Lexeme.TheVariants.{Trivia}
use Rattle.ck_lexer.proofs.OneMarker.{marker_of-complete, marker_of-small, marker_of-sound}
use Rattle.ck_lexer.proofs.OneLexeme.{one_lexeme}
use Rattle.ck_lexer.proofs.OnePlace.{begins_line, marker_first, marker_lexeme, passes_through}
use Rattle.ck_lexer.proofs.Sizes.{IsLexeme-lies}
use Rattle.ck_lexer.proofs.Tests.{eqb-same, from-not}

lexemes_more : (bytes : List ℕ) (from at end : ℕ) (lexeme : Lexeme) (ps : List Ended) → AreLexemes bytes from ps at
    → IsLexeme bytes at end lexeme → AreLexemes bytes from (ps ++ record { lexeme = lexeme; end = end } ∷ []) end
lexemes_more bytes from at end lexeme [] are found = (subst (λ k. IsLexeme bytes k end lexeme) (sym are) found, refl)
lexemes_more bytes from at end lexeme (p ∷ ps) are found =
    (are.0, lexemes_more bytes p.end at end lexeme ps are.1 found)

pub reached_more : (bytes : List ℕ) (at end : ℕ) (lexeme : Lexeme) → IsReached bytes at → IsLexeme bytes at end lexeme
    → IsReached bytes end
reached_more bytes at end lexeme reached found = (
  reached.0 ++ record
      { lexeme = lexeme; end = end } ∷ [],
  lexemes_more bytes 0 at end lexeme reached.0 reached.1 found,
)

-- a marker ends before a lexeme, is the lexeme, or ends after it
abbrev pub Lying : ℕ → ℕ → ℕ → ℕ → Type 0
Lying at end start ends = (ends ≤ at) ⊎ ((start ≡ at × ends ≡ end) ⊎ (end < ends))

marker_before : (bytes : List ℕ) (at : ℕ) (m : Marker) (is : IsMarkerOf bytes m) → IsReached bytes at → is.start < at
    → m.end ≤ at
marker_before bytes at m is reached less =
    let through = passes_through bytes 0 is.start at is.reached.0 reached.0 is.reached.1 reached.1 less in
    let same : through.0.end ≡ m.end = marker_lexeme bytes m is through.0.end through.0.lexeme through.1 in
    let near : through.0.end ≤ at = through.2 in
    omega arith

marker_after : (bytes : List ℕ) (at end : ℕ) (lexeme : Lexeme) (m : Marker) (is : IsMarkerOf bytes m)
    → IsReached bytes at → IsLexeme bytes at end lexeme → at < is.start → end < m.end
marker_after bytes at end lexeme m is reached found less =
    let through = passes_through bytes 0 at is.start reached.0 is.reached.0 reached.1 is.reached.1 less in
    let same : end ≡ through.0.end =
    (one_lexeme bytes at end through.0.end lexeme through.0.lexeme found through.1).0 in
    let near : through.0.end ≤ is.start = through.2 in
    let rest : List ℕ = drop is.start bytes in
    let some : 0 < prefix_len is_no_line_feed rest = (marker_first
    (prefix_len is_no_line_feed rest) rest m.number m.name is.text).1 in
    let ends : m.end ≡ is.start + prefix_len is_no_line_feed rest = is.end in
    omega arith

marker_at : (bytes : List ℕ) (at end : ℕ) (lexeme : Lexeme) (m : Marker) (is : IsMarkerOf bytes m)
    → IsLexeme bytes at end lexeme → is.start ≡ at → m.end ≡ end
marker_at bytes at end lexeme m is found same =
    sym (marker_lexeme bytes m is end lexeme (subst (λ k. IsLexeme bytes k end lexeme) (sym same) found))

pub marker_lies : (bytes : List ℕ) (at end : ℕ) (lexeme : Lexeme) (m : Marker) (is : IsMarkerOf bytes m)
    → IsReached bytes at → IsLexeme bytes at end lexeme → Lying at end is.start m.end
marker_lies bytes at end lexeme m is reached found =
    ⊎_elim
    (λ (early : is.start < at). inl (marker_before bytes at m is reached early))
    (λ (late : at ≤ is.start). inr (⊎_elim
    (λ (same : at ≡ is.start). inl (sym same, marker_at bytes at end lexeme m is found (sym same)))
    (λ (less : at < is.start). inr (marker_after bytes at end lexeme m is reached found less))
    (eq-or-lt_of_le late)))
    (order is.start at)

pub fresh_at_start : (bytes : List ℕ) → IsFresh bytes 0
fresh_at_start bytes m is same inside =
    let rest : List ℕ = drop is.start bytes in
    let some : 0 < prefix_len is_no_line_feed rest = (marker_first
    (prefix_len is_no_line_feed rest) rest m.number m.name is.text).1 in
    let ends : m.end ≡ is.start + prefix_len is_no_line_feed rest = is.end in
    omega arith

pub no_markers_in_lexeme : (bytes : List ℕ) (at end : ℕ) (lexeme : Lexeme) → IsReached bytes at → IsFresh bytes at
    → IsLexeme bytes at end lexeme → NoMarkers bytes at end
no_markers_in_lexeme bytes at end lexeme reached fresh found m is low high inside =
    ⊎_elim
    (λ (before : m.end ≤ at). fresh m is (omega arith) inside)
    (λ (more : (is.start ≡ at × m.end ≡ end) ⊎ (end < m.end)). ⊎_elim
    (λ (here : is.start ≡ at × m.end ≡ end). omega (arith, here.1))
    (λ (after : end < m.end). omega arith)
    more)
    (marker_lies bytes at end lexeme m is reached found)

read_line : (bytes : List ℕ) (at end : ℕ) (m : Marker) (is : IsMarkerOf bytes m) → is.start ≡ at → m.end ≡ end
    → marker_of (slice_range bytes at end) ≡ Some (m.number, m.name)
read_line bytes at end m is start ends =
    let n : ℕ = prefix_len is_no_line_feed (drop is.start bytes) in
    let size : n ≡ end - at = omega (arith, is.end) in
    let whole : marker_of (take n (drop is.start bytes)) ≡ Some (m.number, m.name) = marker_of-complete
    (take n (drop is.start bytes)) m.number m.name is.text in
    ap (λ k. marker_of (take k (drop at bytes))) (sym size) ∙
    (ap (λ k. marker_of (take n (drop k bytes))) (sym start) ∙ whole)

pub fresh_after_unmarked : (bytes : List ℕ) (at end : ℕ) (lexeme : Lexeme) → IsReached bytes at
    → IsLexeme bytes at end lexeme → IsUnmarked bytes at end → IsFresh bytes end
fresh_after_unmarked bytes at end lexeme reached found unmarked m is same inside =
    let lies = IsLexeme-lies bytes at end lexeme found in
    ⊎_elim
    (λ (before : m.end ≤ at). omega (arith, lies.rises))
    (λ (more : (is.start ≡ at × m.end ≡ end) ⊎ (end < m.end)). ⊎_elim
    (λ (here : is.start ≡ at × m.end ≡ end).
    let clear : is_clear (take at bytes) ≡ true = ap (λ k. is_clear (take k bytes)) (sym here.0) ∙ is.clear in
    none-some (m.number, m.name) (sym (unmarked (omega arith) clear) ∙ read_line bytes at end m is here.0 here.1))
    (λ (after : end < m.end). omega arith)
    more)
    (marker_lies bytes at end lexeme m is reached found)

-- a lexeme that is read as a marker is one
pub marked_end : (bytes : List ℕ) (at end : ℕ) (lexeme : Lexeme) (marked : Marked) → IsLexeme bytes at end lexeme
    → IsMarked bytes at end marked → end ≡ at + prefix_len is_no_line_feed (drop at bytes)
marked_end bytes at end lexeme marked found is =
    let rest : List ℕ = drop at bytes in
    let line : IsMarker (take (end - at) rest) marked.number marked.name.now = marker_of-sound
    (take (end - at) rest) marked.number marked.name.now is.read in
    let first = marker_first (end - at) rest marked.number marked.name.now line in
    let there : IsLexemeOf Hash rest found.size lexeme = subst (λ how. IsLexemeOf how rest found.size lexeme)
    (begins_line (is_clear (take at bytes)) rest is.clear first.0) found.is.1 in
    found.ends ∙ ap (λ n. at + n) there.0

abbrev pub marker_with : ℕ → Marked → Marker
marker_with end marked = record { end = end; number = marked.number; name = marked.name.now }

pub marked_marker : (bytes : List ℕ) (at end : ℕ) (lexeme : Lexeme) (marked : Marked) → at < length bytes
    → IsReached bytes at → IsLexeme bytes at end lexeme → IsMarked bytes at end marked
    → IsMarkerOf bytes (marker_with end marked)
marked_marker bytes at end lexeme marked inside reached found is =
    let rest : List ℕ = drop at bytes in
    let ends : end ≡ at + prefix_len is_no_line_feed rest = marked_end bytes at end lexeme marked found is in
    let size : end - at ≡ prefix_len is_no_line_feed rest = omega arith in
    let line : IsMarker (take (end - at) rest) marked.number marked.name.now = marker_of-sound
    (take (end - at) rest) marked.number marked.name.now is.read in
    record {
      start = at;
      within = inside;
      reached = reached;
      clear = is.clear;
      end = ends;
      text = subst (λ n. IsMarker (take n rest) marked.number marked.name.now) size line;
    }

-- a line feed is a lexeme
white_space_first : (clear : Bool) (rest : List ℕ) → is_line_feed (slice_index rest 0) ≡ true
    → beginning_of clear rest ≡ WhiteSpace
white_space_first clear rest feed =
    let first : slice_index rest 0 ≡ 10 = eqb-same (slice_index rest 0) 10 feed in
    rw first refl

first_byte : (bytes : List ℕ) (at : ℕ) → slice_index (drop at bytes) 0 ≡ slice_index bytes at
first_byte bytes at = let e : at + 0 ≡ at = omega arith in get_or-drop at bytes 0 0 ∙ ap (λ k. slice_index bytes k) e

feed_size : (rest : List ℕ) → is_line_feed (slice_index rest 0) ≡ true → 1 ≡ white_space_size rest
feed_size rest feed = rw feed refl

pub feed_lexeme : (bytes : List ℕ) (at : ℕ) → at < length bytes → is_line_feed (slice_index bytes at) ≡ true
    → IsLexeme bytes at (at + 1) Trivia
feed_lexeme bytes at inside feed =
    let rest : List ℕ = drop at bytes in
    let first : is_line_feed (slice_index rest 0) ≡ true = ap is_line_feed (first_byte bytes at) ∙ feed in
    let how : beginning_of (is_clear (take at bytes)) rest ≡ WhiteSpace = white_space_first
    (is_clear (take at bytes)) rest first in
    let some : 0 < length rest = omega (arith, length-drop at bytes) in
    record {
      size = 1;
      ends = refl;
      is = (some, subst (λ b. IsLexemeOf b rest 1 Trivia) (sym how) (feed_size rest first, refl));
    }

no_hash : (b : ℕ) → is_line_feed b ≡ true → b ≡ hash → ⊥
no_hash b feed is = let e : b ≡ 10 = eqb-same b 10 feed in omega arith

pub fresh_after_feed : (bytes : List ℕ) (at : ℕ) → at < length bytes → IsReached bytes at
    → is_line_feed (slice_index bytes at) ≡ true → IsFresh bytes (at + 1)
fresh_after_feed bytes at inside reached feed m is same within =
    ⊎_elim
    (λ (before : m.end ≤ at). omega arith)
    (λ (more : (is.start ≡ at × m.end ≡ at + 1) ⊎ (at + 1 < m.end)). ⊎_elim
    (λ (here : is.start ≡ at × m.end ≡ at + 1).
    let rest : List ℕ = drop is.start bytes in
    let first = marker_first (prefix_len is_no_line_feed rest) rest m.number m.name is.text in
    no_hash (slice_index bytes at) feed (ap (λ k. slice_index bytes k) (sym here.0)
    ∙ (sym (first_byte bytes is.start) ∙ first.0)))
    (λ (after : at + 1 < m.end). omega arith)
    more)
    (marker_lies bytes at (at + 1) Trivia m is reached (feed_lexeme bytes at inside feed))

pub marked_small : (bytes : List ℕ) (at end : ℕ) (marked : Marked) → IsMarked bytes at end marked
    → marked.number < 1000000000
marked_small bytes at end marked is = marker_of-small (slice_range bytes at end) marked.number marked.name.now is.read

-- there is no line feed in a marker
pub marked_feeds : (bytes : List ℕ) (at end : ℕ) → end ≡ at + prefix_len is_no_line_feed (drop at bytes)
    → NoFeeds bytes at end
marked_feeds bytes at end ends k low high =
    let e : at + (k - at) ≡ k = omega arith in
    let passes : is_no_line_feed (get_or (drop at bytes) (k - at) 0) ≡ true = prefix_len_passes is_no_line_feed
    (drop at bytes) (k - at) 0 (omega arith) in
    let there : get_or (drop at bytes) (k - at) 0 ≡ get_or bytes k 0 = get_or-drop at bytes (k - at) 0
    ∙ ap (λ i. get_or bytes i 0) e in
    from-not (is_line_feed (get_or bytes k 0)) (ap is_no_line_feed (sym there) ∙ passes)
