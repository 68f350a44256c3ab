-- A lexeme that begins with none of line feed, `/` and `#` has no line feed, and is no marker.
use Rattle.std.proofs.Common.{◌≡◌, ℕ, zero, suc, ◌+◌, ◌-◌, ◌<◌, ◌≤◌, Bool, true, false, not, ◌&&◌, ◌||◌, ◌==◌, List, []}
use Rattle.std.proofs.Common.{◌∷◌, length, take, drop, get_or, None, ◌⊎◌, inl, inr, ⊎_elim, refl, sym, ap, ◌∙◌, subst}
use Rattle.std.proofs.Common.{arith}
use Rattle.std.specs.Prelude.{slice_index}
use Rattle.std.specs.List.{list_all, prefix_len}
use Rattle.std.proofs.lemmas.Bool.{both_ways}
use Rattle.std.proofs.lemmas.List.{get_or-drop, get_or-take, length-take-le}
use Rattle.std.proofs.lemmas.List.Folds.{list_all_at}
use Rattle.std.proofs.lemmas.List.Sums.{prefix_len_passes}
use Rattle.ck_base.specs.Characters.{backslash}
use Rattle.ck_lexer.specs.Bytes.{double_quote, is_identifier_byte, is_line_feed, is_line_space, is_no_line_feed}
use Rattle.ck_lexer.specs.Bytes.{is_nondigit, is_white_space, quote}
use Rattle.ck_lexer.specs.Cuts.{IsLexeme, is_clear}
use Rattle.ck_lexer.specs.Lexemes.{Beginning, IsLexemeOf, IsTokenOrFault, Other, WhiteSpace, bad, beginning_of, token}
use Rattle.ck_lexer.specs.Lexemes.{unclosed, white_space_size}
use Rattle.ck_lexer.specs.Mapping.{GoesOn, IsMapped, IsNumbered, IsUnmarked}
use Rattle.ck_lexer.specs.Markers.{hash}
use Rattle.ck_lexer.specs.PlaceMaps.{NoFeeds}
use Rattle.ck_lexer.specs.Preprocessing.{begins_number, go_on_after, goes_on, is_closed, is_identifier, is_literal}
use Rattle.ck_lexer.specs.Preprocessing.{is_number, is_preprocessing_token, is_punctuator, is_quoted, punctuators}
use Rattle.ck_lexer.specs.Scanning.{marker_of, may_end_line}
use Rattle.ck_lexer.specs.declared.lexemes.Lexeme.{Lexeme}
use Rattle.ck_lexer.specs.declared.places.Line.{Line}
use Rattle.ck_lexer.specs.declared.places.PlaceMap.{PlaceMap}
use Rattle.ck_lexer.proofs.LinesKept.{Follows, follows_plain, follows_start, mapped_on}
use Rattle.ck_lexer.proofs.Tests.{among-texts, and-both, and-left, and-right, either-test, eqb-same, from-not, no-test}
use Rattle.ck_lexer.proofs.Tests.{or-either}

-- what a test that no line feed passes says of a byte
not_feed : (p : ℕ → Bool) (b : ℕ) → p 10 ≡ false → p b ≡ true → is_no_line_feed b ≡ true
not_feed p b refused passes = no_feed (is_line_feed b) (λ feed. both_ways (p 10) refused
    (subst (λ x. p x ≡ true) (eqb-same b 10 feed) passes)) where
      no_feed : (v : Bool) → (v ≡ true → ⊥) → not v ≡ true
      no_feed true none = absurd (none refl)
      no_feed false none = refl

list_all-not_feed : (p : ℕ → Bool) (text : List ℕ) → p 10 ≡ false → list_all p text ≡ true
    → list_all is_no_line_feed text ≡ true
list_all-not_feed p [] refused all = refl
list_all-not_feed p (b ∷ text) refused all =
    and-both (is_no_line_feed b) (list_all is_no_line_feed text)
    (not_feed p b refused (and-left (p b) (list_all p text) all))
    (list_all-not_feed p text refused (and-right (p b) (list_all p text) all))

run_not_feed : (last : ℕ) (text : List ℕ) → go_on_after last text ≡ true → list_all is_no_line_feed text ≡ true
run_not_feed last [] all = refl
run_not_feed last (b ∷ text) all =
    and-both (is_no_line_feed b) (list_all is_no_line_feed text)
    (not_feed (goes_on last) b refl (and-left (goes_on last b) (go_on_after b text) all))
    (run_not_feed b text (and-right (goes_on last b) (go_on_after b text) all))

closed_not_feed : (mark : ℕ) (text : List ℕ) → is_no_line_feed mark ≡ true → is_closed mark text ≡ true
    → list_all is_no_line_feed text ≡ true
closed_not_feed mark [] plain closed = absurd (cc)
closed_not_feed mark (b ∷ []) plain closed = let e : b ≡ mark = eqb-same b mark closed in rw (e, plain) refl
closed_not_feed mark (b ∷ c ∷ text) plain closed =
    ⊎_elim
    (λ (escape : (b == backslash) ≡ true).
    let parts : (not (is_line_feed c) && is_closed mark text) ≡ true = rw escape at closed in
    and-both (is_no_line_feed b) (list_all is_no_line_feed (c ∷ text)) (not_feed (λ x. x == backslash) b refl escape)
    (and-both (is_no_line_feed c) (list_all is_no_line_feed text)
    (and-left (is_no_line_feed c) (is_closed mark text) parts)
    (closed_not_feed mark text plain (and-right (is_no_line_feed c) (is_closed mark text) parts))))
    (λ (other : (b == backslash) ≡ false).
    let parts : (not (b == mark) && not (is_line_feed b) && is_closed mark (c ∷ text)) ≡ true = rw other at closed in
    and-both (is_no_line_feed b) (list_all is_no_line_feed (c ∷ text))
    (and-right (not (b == mark)) (is_no_line_feed b) (and-left (not (b == mark) && is_no_line_feed b)
    (is_closed mark (c ∷ text)) parts))
    (closed_not_feed mark (c ∷ text) plain (and-right (not (b == mark) && is_no_line_feed b)
    (is_closed mark (c ∷ text)) parts)))
    (either-test (b == backslash))

identifier_not_feed : (text : List ℕ) → is_identifier text ≡ true → list_all is_no_line_feed text ≡ true
identifier_not_feed [] is = refl
identifier_not_feed (b ∷ text) is =
    and-both (is_no_line_feed b) (list_all is_no_line_feed text)
    (not_feed is_nondigit b refl (and-left (is_nondigit b) (list_all is_identifier_byte text) is))
    (list_all-not_feed is_identifier_byte text refl (and-right (is_nondigit b) (list_all is_identifier_byte text) is))

begins_number-feed : (text : List ℕ) → begins_number (10 ∷ text) ≡ false
begins_number-feed [] = refl
begins_number-feed (b ∷ text) = refl

number_not_feed : (text : List ℕ) → is_number text ≡ true → list_all is_no_line_feed text ≡ true
number_not_feed [] is = refl
number_not_feed (b ∷ text) is =
    and-both (is_no_line_feed b) (list_all is_no_line_feed text)
    (not_feed (λ x. begins_number (x ∷ text)) b (begins_number-feed text)
    (and-left (begins_number (b ∷ text)) (go_on_after b text) is))
    (run_not_feed b text (and-right (begins_number (b ∷ text)) (go_on_after b text) is))

quoted_not_feed : (mark : ℕ) (text : List ℕ) → is_no_line_feed mark ≡ true → is_quoted mark text ≡ true
    → list_all is_no_line_feed text ≡ true
quoted_not_feed mark [] plain is = refl
quoted_not_feed mark (b ∷ text) plain is =
    let e : b ≡ mark = eqb-same b mark (and-left (b == mark) (is_closed mark text) is) in
    and-both (is_no_line_feed b) (list_all is_no_line_feed text) (ap is_no_line_feed e ∙ plain)
    (closed_not_feed mark text plain (and-right (b == mark) (is_closed mark text) is))

punctuator_not_feed : (text : List ℕ) → is_punctuator text ≡ true → list_all is_no_line_feed text ≡ true
unfolding is_punctuator
punctuator_not_feed text is = among-texts (list_all is_no_line_feed) text punctuators refl is

token_not_feed : (text : List ℕ) → is_preprocessing_token text ≡ true → list_all is_no_line_feed text ≡ true
unfolding is_preprocessing_token
token_not_feed text is =
    ⊎_elim
    (λ (a : (is_identifier text || is_number text || is_literal text) ≡ true). ⊎_elim
    (λ (b : (is_identifier text || is_number text) ≡ true). ⊎_elim (identifier_not_feed text) (number_not_feed text)
    (or-either (is_identifier text) (is_number text) b))
    (λ (l : is_literal text ≡ true). ⊎_elim (quoted_not_feed quote text refl) (quoted_not_feed double_quote text refl)
    (or-either (is_quoted quote text) (is_quoted double_quote text) l))
    (or-either (is_identifier text || is_number text) (is_literal text) a))
    (punctuator_not_feed text)
    (or-either (is_identifier text || is_number text || is_literal text) (is_punctuator text) is)

-- the tests of `may_end_line`
record IsWithin (b : ℕ) : Type 0 where
  no_feed : is_line_feed b ≡ false
  no_slash : (b == 47) ≡ false
  no_hash : (b == hash) ≡ false

is_within : (b : ℕ) → may_end_line b ≡ false → IsWithin b
is_within b h = record {
  no_feed = no-test (is_line_feed b) (λ e. both_ways (may_end_line b) h (rw e refl));
  no_slash = no-test (b == 47) (λ e. both_ways (may_end_line b) h (let s : b ≡ 47 = eqb-same b 47 e in rw s refl));
  no_hash = no-test (b == hash) (λ e. both_ways (may_end_line b) h (let s : b ≡ hash = eqb-same b hash e in rw s refl));
}

begins_within : (clear : Bool) (rest : List ℕ) → IsWithin (get_or rest 0 0)
    → (beginning_of clear rest ≡ WhiteSpace) ⊎ (beginning_of clear rest ≡ Other)
begins_within clear rest w =
    ⊎_elim
    (λ (white : is_white_space (get_or rest 0 0) ≡ true). inl (rw white refl))
    (λ (other : is_white_space (get_or rest 0 0) ≡ false). let slash = w.no_slash in let refused = w.no_hash in
    inr (rw (other, slash, refused) refl))
    (either-test (is_white_space (get_or rest 0 0)))

abbrev NoFeedsIn : List ℕ → ℕ → Type 0
NoFeedsIn rest size = (k : ℕ) → k < size → is_line_feed (get_or rest k 0) ≡ false

white_not_feed : (rest : List ℕ) (size : ℕ) → is_line_feed (get_or rest 0 0) ≡ false → size ≡ white_space_size rest
    → NoFeedsIn rest size
white_not_feed rest size refused is k less =
    let e : white_space_size rest ≡ prefix_len is_line_space rest = rw refused refl in
    let passes = prefix_len_passes is_line_space rest k 0 (omega (arith, e)) in
    from-not (is_line_feed (get_or rest k 0)) (and-right (is_white_space (get_or rest k 0))
    (is_no_line_feed (get_or rest k 0)) passes)

all_not_feed : (text : List ℕ) (k : ℕ) → list_all is_no_line_feed text ≡ true → k < length text
    → is_line_feed (get_or text k 0) ≡ false
all_not_feed text k all less =
    no-test (is_line_feed (get_or text k 0)) (λ feed. both_ways (list_all is_no_line_feed text)
    (list_all_at is_no_line_feed text k 0 less (rw feed refl)) all)

token_or_fault_not_feed : (rest : List ℕ) (size : ℕ) (lexeme : Lexeme) → is_line_feed (get_or rest 0 0) ≡ false
    → IsTokenOrFault rest size lexeme → NoFeedsIn rest size
token_or_fault_not_feed rest _ _ refused (token size longest) k less =
    ap is_line_feed (sym (get_or-take size rest k 0 less)) ∙ all_not_feed (take size rest) k
    (token_not_feed (take size rest) longest.token) (omega (arith, length-take-le size rest longest.within))
token_or_fault_not_feed rest _ _ refused (unclosed none quoted) k less = from-not (is_line_feed (get_or rest k 0))
    (prefix_len_passes is_no_line_feed rest k 0 less)
token_or_fault_not_feed rest _ _ refused (bad none other) k less = let e : k ≡ 0 = omega arith in
    ap (λ i. is_line_feed (get_or rest i 0)) e ∙ refused

first_not_feed : (clear : Bool) (rest : List ℕ) (size : ℕ) (lexeme : Lexeme) → IsWithin (get_or rest 0 0)
    → IsLexemeOf (beginning_of clear rest) rest size lexeme → NoFeedsIn rest size
first_not_feed clear rest size lexeme w is =
    let P : Beginning → Type 0 = λ how. IsLexemeOf how rest size lexeme in
    ⊎_elim
    (λ (white : beginning_of clear rest ≡ WhiteSpace). white_not_feed rest size w.no_feed (subst P white is).0)
    (λ (other : beginning_of clear rest ≡ Other). token_or_fault_not_feed rest size lexeme w.no_feed (subst P other is))
    (begins_within clear rest w)

first_at : (bytes : List ℕ) (at : ℕ) → slice_index bytes at ≡ get_or (drop at bytes) 0 0
first_at bytes at = let e : at + 0 ≡ at = omega arith in sym (get_or-drop at bytes 0 0 ∙ ap (λ k. get_or bytes k 0) e)

lexeme_not_feed : (bytes : List ℕ) (at end : ℕ) (lexeme : Lexeme) → may_end_line (slice_index bytes at) ≡ false
    → IsLexeme bytes at end lexeme → NoFeeds bytes at end
lexeme_not_feed bytes at end lexeme within is k low high =
    let w = is_within (get_or (drop at bytes) 0 0) (ap may_end_line (sym (first_at bytes at)) ∙ within) in
    let e : at + (k - at) ≡ k = omega arith in
    let there = get_or-drop at bytes (k - at) 0 ∙ ap (λ i. get_or bytes i 0) e in
    ap is_line_feed (sym there) ∙ first_not_feed (is_clear (take at bytes)) (drop at bytes) is.size lexeme w is.is.1
    (k - at) (omega (arith, is.ends))

marker_of-other : (n : ℕ) (rest : List ℕ) → (get_or rest 0 0 == hash) ≡ false → marker_of (take n rest) ≡ None
marker_of-other zero rest other = refl
marker_of-other (suc n) [] other = refl
marker_of-other (suc n) (b ∷ rest) other = rw other refl

lexeme_unmarked : (bytes : List ℕ) (at end : ℕ) → may_end_line (slice_index bytes at) ≡ false → IsUnmarked bytes at end
lexeme_unmarked bytes at end within inside clear =
    marker_of-other (end - at) (drop at bytes) (is_within (get_or (drop at bytes) 0 0)
    (ap may_end_line (sym (first_at bytes at)) ∙ within)).no_hash

follows_along : (bytes : List ℕ) (lines : List Line) (on : Line) (at n : ℕ) → IsNumbered on → on.start ≤ at
    → at + n ≤ length bytes → NoFeeds bytes at (at + n) → Follows bytes lines on at lines on (at + n)
follows_along bytes lines on at zero numbered begun within none =
    let e : at ≡ at + 0 = omega arith in subst (Follows bytes lines on at lines on) e
    (follows_start bytes lines on at numbered begun)
follows_along bytes lines on at (suc n) numbered begun within none =
    let e : (at + n) + 1 ≡ at + suc n = omega arith in
    subst (Follows bytes lines on at lines on) e
    (follows_plain bytes lines lines on on at (at + n) (follows_along bytes lines on at n numbered begun (omega arith)
    (λ k low high. none k low (omega arith))) (omega arith) (none (at + n) (omega arith) (omega arith)))

pub mapped_within : (name bytes : List ℕ) (map : PlaceMap) (on : Line) (at end : ℕ) (lexeme : Lexeme) → at ≤ end
    → end ≤ length bytes
    → may_end_line (slice_index bytes at) ≡ false → IsLexeme bytes at end lexeme → IsMapped name bytes map on at
    → IsMapped name bytes map on end
mapped_within name bytes map on at end lexeme up inside within is mapped =
    let none : NoFeeds bytes at end = lexeme_not_feed bytes at end lexeme within is in
    let e : at + (end - at) ≡ end = omega arith in
    let along = follows_along bytes map.lines.items on at (end - at) mapped.numbered mapped.found.begun (omega arith)
    (subst (NoFeeds bytes at) (sym e) none) in
    let goes : GoesOn bytes map.lines.items on at map.lines.items on end = subst
    (GoesOn bytes map.lines.items on at map.lines.items on) e along.found in
    mapped_on name bytes map map on on at end lexeme refl mapped is
    (lexeme_unmarked bytes at end within) mapped.numbered goes
