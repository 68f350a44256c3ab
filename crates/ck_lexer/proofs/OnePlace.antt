-- Each offset has one place.
use Rattle.std.proofs.Common.{◌≡◌, ℕ, zero, suc, ◌+◌, ◌<◌, ◌≤◌, Bool, true, List, [], ◌∷◌, take, drop, slice_index}
use Rattle.std.proofs.Common.{refl, sym, ap, ◌∙◌, subst, arith, le_antisymm}
use Rattle.std.specs.Prelude.{slice_range}
use Rattle.std.specs.List.{prefix_len}
use Rattle.ck_lexer.specs.Bytes.{is_no_line_feed}
use Rattle.ck_lexer.specs.Cuts.{AreLexemes, Ended, IsLexeme, is_clear}
use Rattle.ck_lexer.specs.Markers.{IsMarker, hash}
use Rattle.ck_lexer.specs.Lexemes.{Hash, IsLexemeOf, beginning_of}
use Rattle.ck_lexer.specs.Places.{IsMarkerOf, IsPlace, Marker, Place, column_at, line_feeds, of_file, of_marker}
use Rattle.ck_lexer.specs.declared.lexemes.Lexeme.{Lexeme}
use Rattle.ck_lexer.proofs.OneMarker.{one_marker}
use Rattle.ck_lexer.proofs.OneLexeme.{one_order, one_lexeme}

pub lexemes_rise : (bytes : List ℕ) (from to : ℕ) (ps : List Ended) → AreLexemes bytes from ps to → from ≤ to
lexemes_rise bytes from to [] are = omega arith
lexemes_rise bytes from to (p ∷ ps) are =
    let rest : p.end ≤ to = lexemes_rise bytes p.end to ps are.1 in
    let first : p.end ≡ from + are.0.size = are.0.ends in
    omega arith

-- of two reached places the further one is reached through the other
pub passes_through : (bytes : List ℕ) (from a b : ℕ) (ps qs : List Ended) → AreLexemes bytes from ps a
    → AreLexemes bytes from qs b → a < b → (p : Ended) × IsLexeme bytes a p.end p.lexeme × (p.end ≤ b)
passes_through bytes from a b [] [] p q less = absurd (omega arith)
passes_through bytes from a b [] (y ∷ ys) p q less = (
  y,
  subst
      (λ at. IsLexeme bytes at y.end y.lexeme) p q.0,
  lexemes_rise bytes y.end b ys q.1,
)
passes_through bytes from a b (x ∷ xs) [] p q less =
    let up : from ≤ a = lexemes_rise bytes from a (x ∷ xs) p in
    absurd (omega arith)
passes_through bytes from a b (x ∷ xs) (y ∷ ys) p q less =
    let same : x.end ≡ y.end = (one_lexeme bytes from x.end y.end x.lexeme y.lexeme p.0 q.0).0 in
    passes_through bytes x.end a b xs ys p.1 (subst (λ at. AreLexemes bytes at ys b) (sym same) q.1) less

same_head : (b : ℕ) (text line : List ℕ) → b ∷ text ≡ hash ∷ line → b ≡ hash
same_head b text line e = cc

-- a marker begins with `#`
hash_first : (n : ℕ) (rest line : List ℕ) → take n rest ≡ hash ∷ line → (slice_index rest 0 ≡ hash) × (0 < n)
hash_first zero rest line e = absurd (cc)
hash_first (suc n) [] line e = absurd (cc)
hash_first (suc n) (b ∷ rest) line e = (same_head b (take n rest) line e, omega arith)

pub marker_first : (n : ℕ) (rest : List ℕ) (number : ℕ) (name : List ℕ) → IsMarker (take n rest) number name
    → (slice_index rest 0 ≡ hash) × (0 < n)
marker_first n rest number name m = hash_first n rest _ m.text

pub begins_line : (clear : Bool) (rest : List ℕ) → clear ≡ true → slice_index rest 0 ≡ hash
    → beginning_of clear rest ≡ Hash
begins_line clear rest is_clear first = rw (is_clear, first) refl

-- the lexeme at a marker's `#` ends where the marker ends
pub marker_lexeme : (bytes : List ℕ) (m : Marker) (is : IsMarkerOf bytes m) (end : ℕ) (lexeme : Lexeme)
    → IsLexeme bytes is.start end lexeme → end ≡ m.end
marker_lexeme bytes m is end lexeme found =
    let rest : List ℕ = drop is.start bytes in
    let first = marker_first (prefix_len is_no_line_feed rest) rest m.number m.name is.text in
    let line : IsLexemeOf Hash rest found.size lexeme = subst (λ how. IsLexemeOf how rest found.size lexeme)
    (begins_line (is_clear (take is.start bytes)) rest is.clear first.0) found.is.1 in
    found.ends ∙ (ap (λ n. is.start + n) line.0 ∙ sym is.end)

later_ends_later : (bytes : List ℕ) (m n : Marker) (a : IsMarkerOf bytes m) (b : IsMarkerOf bytes n)
    → a.start < b.start → m.end < n.end
later_ends_later bytes m n a b less =
    let through = passes_through bytes 0 a.start b.start a.reached.0 b.reached.0 a.reached.1 b.reached.1 less in
    let here : through.0.end ≡ m.end = marker_lexeme bytes m a through.0.end through.0.lexeme through.1 in
    let some : 0 < prefix_len is_no_line_feed (drop b.start bytes) =
    (marker_first (prefix_len is_no_line_feed (drop b.start bytes))
    (drop b.start bytes) n.number n.name b.text).1 in
    let ends : n.end ≡ b.start + prefix_len is_no_line_feed (drop b.start bytes) = b.end in
    let before : through.0.end ≤ b.start = through.2 in
    omega arith

not_later : (bytes : List ℕ) (m n : Marker) (a : IsMarkerOf bytes m) (b : IsMarkerOf bytes n) → m.end ≡ n.end
    → a.start < b.start → ⊥
not_later bytes m n a b same less = let up : m.end < n.end = later_ends_later bytes m n a b less in omega arith

abbrev marker_with : ℕ → ℕ → List ℕ → Marker
marker_with end number name = record { end = end; number = number; name = name }

same_markers : (m n : Marker) → m.end ≡ n.end → (m.number ≡ n.number) × (m.name ≡ n.name) → m ≡ n
same_markers m n end parts =
    ap (λ x. marker_with x m.number m.name) end ∙ (ap (λ x. marker_with n.end x m.name) parts.0
    ∙ ap (λ x. marker_with n.end n.number x) parts.1)

pub one_marker_of : (bytes : List ℕ) (m n : Marker) → IsMarkerOf bytes m → IsMarkerOf bytes n → m.end ≡ n.end → m ≡ n
one_marker_of bytes m n a b same =
    let start : a.start ≡ b.start = one_order a.start b.start (not_later bytes m n a b same)
    (not_later bytes n m b a (sym same)) in
    let line : ℕ → List ℕ = λ at. take (prefix_len is_no_line_feed (drop at bytes)) (drop at bytes) in
    same_markers m n same (one_marker (line b.start) m.number n.number m.name n.name
    (subst (λ at. IsMarker (line at) m.number m.name) start a.text) b.text)

abbrev place_of_marker : List ℕ → ℕ → Marker → Place
place_of_marker bytes offset m = record {
  name = m.name;
  line = m.number + line_feeds
      (slice_range bytes (m.end + 1) offset);
  column = column_at bytes offset;
}

pub one_place : (name bytes : List ℕ) (offset : ℕ) (p q : Place) → IsPlace name bytes offset p
    → IsPlace name bytes offset q → p ≡ q
one_place name bytes offset _ _ (of_file none) (of_file none_q) = refl
one_place name bytes offset _ _ (of_file none) (of_marker n is less last) = absurd (none n is less)
one_place name bytes offset _ _ (of_marker m is less last) (of_file none) = absurd (none m is less)
one_place name bytes offset _ _ (of_marker m is less last) (of_marker n is_n less_n last_n) =
    ap (place_of_marker bytes offset) (one_marker_of bytes m n is is_n
    (le_antisymm (last_n m is less) (last n is_n less_n)))
