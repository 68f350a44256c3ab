-- A lexeme takes a byte at least, and ends within the file.
use Rattle.std.proofs.Common.{◌≡◌, ℕ, zero, suc, ◌+◌, ◌<◌, ◌≤◌, Bool, true, false, List, [], ◌∷◌, length, take, drop}
use Rattle.std.proofs.Common.{get_or, refl, sym, ◌∙◌, arith, ⊎_elim, length-drop}
use Rattle.std.specs.Prelude.{◌==◌, ◌≢◌, ◌&&◌, if◌then◌else◌}
use Rattle.std.specs.List.{prefix_len}
use Rattle.std.proofs.lemmas.List.{get_or_past}
use Rattle.std.proofs.lemmas.List.Sums.{prefix_len-le-length}
use Rattle.std.proofs.lemmas.Bool.Decides.{nat_tests}
use Rattle.std.proofs.str.Laws.{order}
use Rattle.ck_lexer.specs.Bytes.{is_line_feed, is_line_space, is_no_line_feed, is_quote, is_white_space}
use Rattle.ck_lexer.specs.Cuts.{IsLexeme, is_clear}
use Rattle.ck_lexer.specs.Lexemes.{IsTokenOrFault, token, unclosed, bad, IsComment, closed, open_, closes_at, Beginning}
use Rattle.ck_lexer.specs.Lexemes.{WhiteSpace, Block, Line, Hash, Other, begins_block, begins_line_comment}
use Rattle.ck_lexer.specs.Lexemes.{beginning_of, IsLexemeOf, IsLongestToken, white_space_size}
use Rattle.ck_lexer.specs.Markers.{hash}
use Rattle.ck_lexer.specs.Preprocessing.{is_preprocessing_token, is_punctuator}
use Rattle.ck_lexer.specs.declared.lexemes.Lexeme.{Lexeme}
use Rattle.ck_lexer.proofs.Tests.{either-test, and-right, eqb-same}

-- 0 < size and size ≤ n
pub record Fits (size n : ℕ) : Type 0 where
  pub some : 0 < size
  pub within : size ≤ n

no_empty_token : is_preprocessing_token [] ≡ false
unfolding is_preprocessing_token is_punctuator
no_empty_token = refl

token-some : (rest : List ℕ) (size : ℕ) → IsLongestToken rest size → 0 < size
token-some rest zero longest = let e = longest.token in let f = no_empty_token in absurd (cc)
token-some rest (suc size) longest = omega arith

line-some : (rest : List ℕ) → 0 < length rest → is_white_space (get_or rest 0 0) ≡ false
    → 0 < prefix_len is_no_line_feed rest
line-some [] some other = absurd (omega arith)
line-some (b ∷ rest) some other = let plain : is_no_line_feed b ≡ true = grind (arith, nat_tests) in
    rw plain (omega arith)

quote-no_white_space : (b : ℕ) → is_quote b ≡ true → is_white_space b ≡ false
quote-no_white_space b h = grind (arith, nat_tests)

token-fits : (rest : List ℕ) (size : ℕ) (lexeme : Lexeme) → 0 < length rest → IsTokenOrFault rest size lexeme
    → Fits size (length rest)
token-fits rest _ _ some (token size longest) = record { some = token-some rest size longest; within = longest.within }
token-fits rest _ _ some (unclosed none q) = record {
  some = line-some rest some
      (quote-no_white_space (get_or rest 0 0) q);
  within = prefix_len-le-length is_no_line_feed rest;
}
token-fits rest _ _ some (bad none q) = record { some = omega arith; within = some }

close-within : (rest : List ℕ) (k : ℕ) → closes_at rest k ≡ true → k + 2 ≤ length rest
close-within rest k h =
    ⊎_elim
    (λ (inside : k + 1 < length rest). omega arith)
    (λ (past : length rest ≤ k + 1).
    let e : get_or rest (k + 1) 0 ≡ 0 = get_or_past rest (k + 1) 0 past in
    let f : get_or rest (k + 1) 0 ≡ 47 = eqb-same (get_or rest (k + 1) 0) 47
    (and-right (get_or rest k 0 == 42) (get_or rest (k + 1) 0 == 47) h) in
    absurd (omega arith))
    (order (k + 1) (length rest))

comment-fits : (rest : List ℕ) (size : ℕ) (lexeme : Lexeme) → 0 < length rest → IsComment rest size lexeme
    → Fits size (length rest)
comment-fits rest _ _ some (closed k after here first) = record
    { some = omega arith; within = close-within rest k here }
comment-fits rest _ _ some (open_ none) = record { some = some; within = omega arith }

first-other : (clear : Bool) (rest : List ℕ) (beginning : Beginning) → beginning ≢ WhiteSpace
    → beginning_of clear rest ≡ beginning → is_white_space (get_or rest 0 0) ≡ false
first-other clear rest beginning other is =
    ⊎_elim
    (λ (separator : is_white_space
    (get_or rest 0 0) ≡ true). let e : beginning_of clear rest ≡ WhiteSpace = rw separator refl in
    absurd (other (sym is ∙ e)))
    (λ (plain : is_white_space (get_or rest 0 0) ≡ false). plain)
    (either-test (is_white_space (get_or rest 0 0)))

not_white_space : (a b c : Bool) → (if a then Block else if b then Line else if c then Hash else Other) ≡ WhiteSpace → ⊥
not_white_space true b c is = cc
not_white_space false true c is = cc
not_white_space false false true is = cc
not_white_space false false false is = cc

first-white_space : (clear : Bool) (rest : List ℕ) → beginning_of clear rest ≡ WhiteSpace
    → is_white_space (get_or rest 0 0) ≡ true
first-white_space clear rest is =
    ⊎_elim
    (λ (white : is_white_space (get_or rest 0 0) ≡ true). white)
    (λ (other : is_white_space (get_or rest 0 0) ≡ false). absurd
    (not_white_space (begins_block rest) (begins_line_comment rest) (get_or rest 0 0 == hash && clear)
    (rw other at is)))
    (either-test (is_white_space (get_or rest 0 0)))

white_space-fits : (rest : List ℕ) → 0 < length rest → is_white_space (get_or rest 0 0) ≡ true
    → Fits (white_space_size rest) (length rest)
white_space-fits [] some white = absurd (omega arith)
white_space-fits (b ∷ rest) some white =
    ⊎_elim
    (λ (feed : is_line_feed b ≡ true). rw feed (record { some = omega arith; within = omega arith }))
    (λ (other : is_line_feed b ≡ false). rw (other, white) (record
    { some = omega arith; within = omega (arith, prefix_len-le-length is_line_space rest) }))
    (either-test (is_line_feed b))

lexeme-fits : (clear : Bool) (rest : List ℕ) (size : ℕ) (lexeme : Lexeme) (beginning : Beginning) → 0 < length rest
    → beginning_of clear rest ≡ beginning → IsLexemeOf beginning rest size lexeme → Fits size (length rest)
lexeme-fits clear rest size lexeme WhiteSpace some is found = rw found.0
    (white_space-fits rest some (first-white_space clear rest is))
lexeme-fits clear rest size lexeme Block some is found = comment-fits rest size lexeme some found
lexeme-fits clear rest size lexeme Line some is found =
    let plain = first-other clear rest Line (λ e. cc) is in
    record {
      some = omega (arith, found.0, line-some rest some plain);
      within = omega
          (arith, found.0, prefix_len-le-length is_no_line_feed rest);
    }
lexeme-fits clear rest size lexeme Hash some is found =
    let plain = first-other clear rest Hash (λ e. cc) is in
    record {
      some = omega (arith, found.0, line-some rest some plain);
      within = omega
          (arith, found.0, prefix_len-le-length is_no_line_feed rest);
    }
lexeme-fits clear rest size lexeme Other some is found = token-fits rest size lexeme some found

-- a lexeme of a file
pub record Lies (bytes : List ℕ) (start end : ℕ) : Type 0 where
  pub rises : start < end
  pub within : end ≤ length bytes

pub IsLexeme-lies : (bytes : List ℕ) (start end : ℕ) (lexeme : Lexeme) → IsLexeme bytes start end lexeme
    → Lies bytes start end
IsLexeme-lies bytes start end lexeme found =
    let fits = lexeme-fits (is_clear (take start bytes)) (drop start bytes) found.size lexeme
    (beginning_of (is_clear (take start bytes)) (drop start bytes)) found.is.0 refl found.is.1 in
    let some = found.is.0 in
    record {
      rises = omega (arith, found.ends, fits.some);
      within = omega
          (arith, found.ends, fits.within, length-drop start bytes, some);
    }
