-- What the code scans first is what the text begins with.
use Rattle.std.proofs.Common.{◌≡◌, ℕ, zero, suc, ◌+◌, ◌<◌, ◌≤◌, true, false, List, [], ◌∷◌, length, take, drop, get_or}
use Rattle.std.proofs.Common.{Option, Some, None, refl, sym, ap, ◌∙◌, arith, ⊎_elim}
use Rattle.std.specs.Prelude.{◌==◌}
use Rattle.std.specs.List.{prefix_len}
use Rattle.ck_base.specs.declared.refusals.Unsupported.TheVariants.{U1, U2}
use Rattle.ck_base.specs.declared.tokens.TokenKind.TheVariants.{Mark}
use Rattle.ck_lexer.specs.Bytes.{is_nondigit, is_identifier_byte, is_quote, is_no_line_feed, quote, double_quote}
use Rattle.ck_lexer.specs.Preprocessing.{is_identifier, is_number, is_quoted, is_closed, begins_number}
use Rattle.ck_lexer.specs.Lexemes.{IsTokenOrFault, token, unclosed, bad, IsLongestToken, lexeme_of, identifier_lexeme}
use Rattle.ck_lexer.specs.Lexemes.{number_lexeme, character_lexeme, string_lexeme}
use Rattle.ck_lexer.specs.Scanning.{closing, moved_by, run_after, punctuator_size, literal_lexeme}
use Rattle.ck_lexer.specs.declared.lexemes.Lexeme.{Lexeme}
use Rattle.ck_lexer.specs.declared.lexemes.Lexeme.TheVariants.{Token, Fault}
use Rattle.ck_lexer.proofs.Tests.{and-both, or-left, or-right, or-either, no-test, either-test, eqb-same}
use Rattle.ck_lexer.proofs.FirstBytes.{number-first, literal-first, nondigit-quote}
use Rattle.ck_lexer.proofs.LiteralLemmas.{closing-is_closed}
use Rattle.ck_lexer.proofs.Longest.{longest-word, word-identifier}
use Rattle.ck_lexer.proofs.LongestNumber.{longest-number, number-number, number-no_identifier, number-no_quote}
use Rattle.ck_lexer.proofs.LongestNumber.{prefix-begins, run-fits}
use Rattle.ck_lexer.proofs.LongestLiteral.{longest-literal, no_literal}
use Rattle.ck_lexer.proofs.LongestMark.{BeginsMark, longest-mark, no_mark}

-- which lexeme a text is
lexeme_of-identifier : (text : List ℕ) → is_identifier text ≡ true → lexeme_of text ≡ identifier_lexeme text
unfolding lexeme_of
lexeme_of-identifier text h = rw h refl

lexeme_of-number : (text : List ℕ) → is_identifier text ≡ false → is_number text ≡ true
    → lexeme_of text ≡ number_lexeme text
unfolding lexeme_of
lexeme_of-number text i n = rw (i, n) refl

lexeme_of-character : (text : List ℕ) → is_identifier text ≡ false → is_number text ≡ false
    → is_quoted quote text ≡ true → lexeme_of text ≡ character_lexeme text
unfolding lexeme_of
lexeme_of-character text i n q = rw (i, n, q) refl

lexeme_of-string : (text : List ℕ) → is_identifier text ≡ false → is_number text ≡ false
    → is_quoted quote text ≡ false → is_quoted double_quote text ≡ true → lexeme_of text ≡ string_lexeme text
unfolding lexeme_of
lexeme_of-string text i n q d = rw (i, n, q, d) refl

lexeme_of-mark : (text : List ℕ) → is_identifier text ≡ false → is_number text ≡ false → is_quoted quote text ≡ false
    → is_quoted double_quote text ≡ false → lexeme_of text ≡ Token Mark
unfolding lexeme_of
lexeme_of-mark text i n q d = rw (i, n, q, d) refl

token_at : (rest : List ℕ) (n m : ℕ) (p : Lexeme) → n ≡ m → p ≡ lexeme_of (take m rest) → IsLongestToken rest m
    → IsTokenOrFault rest n p
token_at rest n m p e f longest = rw (e, f) (token m longest)

pub IsTokenOrFault-word : (rest : List ℕ) (n : ℕ) (p : Lexeme) → is_nondigit (get_or rest 0 0) ≡ true
    → n ≡ prefix_len is_identifier_byte rest → p ≡ identifier_lexeme (take n rest) → IsTokenOrFault rest n p
IsTokenOrFault-word [] n p first size lexeme = absurd (cc)
IsTokenOrFault-word (b ∷ text) n p first size lexeme =
    let byte : is_identifier_byte b ≡ true = rw first refl in
    let m : n ≡ suc (prefix_len is_identifier_byte text) = size ∙ (rw byte (omega arith)) in
    token_at (b ∷ text) n (suc (prefix_len is_identifier_byte text)) p m
    (lexeme ∙ ap (λ k. identifier_lexeme (take k (b ∷ text))) m
    ∙ sym (lexeme_of-identifier (b ∷ take (prefix_len is_identifier_byte text) text)
    (word-identifier b text first)))
    (longest-word b text first)

number-no_word : (b : ℕ) (text : List ℕ) → is_nondigit b ≡ false → is_identifier (b ∷ text) ≡ false
number-no_word b text h = rw h refl

pub number-size : (rest : List ℕ) (n : ℕ) → 0 < length rest → n ≡ 1 + run_after (get_or rest 0 0) (drop 1 rest)
    → n ≤ length rest
number-size [] n some size = absurd (omega arith)
number-size (b ∷ text) n some size = omega (arith, run-fits b text)

pub IsTokenOrFault-number : (rest : List ℕ) (n : ℕ) (p : Lexeme) → begins_number rest ≡ true
    → n ≡ 1 + run_after (get_or rest 0 0) (drop 1 rest) → p ≡ number_lexeme (take n rest) → IsTokenOrFault rest n p
IsTokenOrFault-number [] n p first size lexeme = absurd (cc)
IsTokenOrFault-number (b ∷ text) n p first size lexeme =
    let m : n ≡ suc (run_after b text) = size ∙ omega arith in
    token_at (b ∷ text) n (suc (run_after b text)) p m
    (lexeme ∙ ap (λ k. number_lexeme (take k (b ∷ text))) m ∙ sym
    (lexeme_of-number (b ∷ take (run_after b text) text) (number-no_word b (take (run_after b text) text)
    (number-no_identifier b text first)) (number-number b text first)))
    (longest-number b text first)

-- a literal is no word and no number
quote-no_nondigit : (b : ℕ) → is_quote b ≡ true → is_nondigit b ≡ false
quote-no_nondigit b q = no-test (is_nondigit b) (λ n. let e = nondigit-quote b n in absurd (cc))

quote-no_number : (b : ℕ) (text : List ℕ) → is_quote b ≡ true → is_number (b ∷ text) ≡ false
quote-no_number b text q = no-test (is_number (b ∷ text)) (λ n. let e = number-no_quote b text
    (number-first b text n) in absurd (cc))

lexeme_of-literal : (b : ℕ) (text : List ℕ) → is_quote b ≡ true → is_closed b text ≡ true
    → lexeme_of (b ∷ text) ≡ literal_lexeme (b ∷ text)
lexeme_of-literal b text q closed =
    let i = number-no_word b text (quote-no_nondigit b q) in
    let n = quote-no_number b text q in
    ⊎_elim
    (λ (single : (b == quote) ≡ true). let e : b ≡ quote = eqb-same b quote single in
    lexeme_of-character (b ∷ text) i n (and-both (b == quote) (is_closed quote text) single (rw e at closed))
    ∙ rw single refl)
    (λ (other : (b == quote) ≡ false).
    let double : (b == double_quote) ≡ true = ⊎_elim (λ (d : (b == double_quote) ≡ true). d)
    (λ (s : (b == quote) ≡ true). absurd (cc)) (or-either (b == double_quote) (b == quote) q) in
    let e : b ≡ double_quote = eqb-same b double_quote double in
    lexeme_of-string (b ∷ text) i n (rw other refl) (and-both (b == double_quote) (is_closed double_quote text) double
    (rw e at closed)) ∙ rw other refl)
    (either-test (b == quote))

pub literal-size : (rest : List ℕ) (n : ℕ) → 0 < length rest → moved_by 1
    (closing (get_or rest 0 0) (drop 1 rest)) ≡ Some n → (n ≤ length rest) × (k : ℕ) × (n ≡ suc k) ×
    (closing (get_or rest 0 0) (drop 1 rest) ≡ Some k)
literal-size [] n some size = absurd (omega arith)
literal-size (b ∷ text) n some size = sized (closing b text) refl size where
  sized : (o : Option ℕ) → closing b text ≡ o → moved_by 1 o ≡ Some n
      → (n ≤ length (b ∷ text)) × (k : ℕ) × (n ≡ suc k) × (closing b text ≡ Some k)
  sized None e h = absurd (cc)
  sized (Some k) e h = let m : k + 1 ≡ n = cc in let c = closing-is_closed b text k e in
      (omega (arith, c.1), k, omega arith, e)

pub IsTokenOrFault-literal : (rest : List ℕ) (n : ℕ) (p : Lexeme) → is_quote (get_or rest 0 0) ≡ true
    → moved_by 1 (closing (get_or rest 0 0) (drop 1 rest)) ≡ Some n → p ≡ literal_lexeme (take n rest)
    → IsTokenOrFault rest n p
IsTokenOrFault-literal [] n p q size lexeme = absurd (cc)
IsTokenOrFault-literal (b ∷ text) n p q size lexeme =
    let s = literal-size (b ∷ text) n (omega arith) size in
    let k = s.1 in
    token_at (b ∷ text) n (suc k) p s.2
    (lexeme ∙ ap (λ j. literal_lexeme (take j (b ∷ text))) s.2
    ∙ sym (lexeme_of-literal b (take k text) q (closing-is_closed b text k s.3).0))
    (longest-literal b text k q s.3)

nothing_moved : (o : Option ℕ) → moved_by 1 o ≡ None → o ≡ None
nothing_moved None h = refl
nothing_moved (Some k) h = absurd (cc)

pub IsTokenOrFault-unclosed : (rest : List ℕ) (n : ℕ) → is_quote (get_or rest 0 0) ≡ true
    → moved_by 1 (closing (get_or rest 0 0) (drop 1 rest)) ≡ None → n ≡ prefix_len is_no_line_feed rest
    → IsTokenOrFault rest n (Fault U2)
IsTokenOrFault-unclosed [] n q none size = absurd (cc)
IsTokenOrFault-unclosed (b ∷ text) n q none size = rw size (unclosed
    (no_literal b text q (nothing_moved (closing b text) none)) q)

-- a punctuator, or a bad byte
pub IsTokenOrFault-mark : (rest : List ℕ) (n : ℕ) → 0 < length rest → is_nondigit (get_or rest 0 0) ≡ false
    → begins_number rest ≡ false → is_quote (get_or rest 0 0) ≡ false → n ≡ punctuator_size rest → 0 < n
    → IsTokenOrFault rest n (Token Mark)
IsTokenOrFault-mark [] n some word number quoted size found = absurd (omega arith)
IsTokenOrFault-mark (b ∷ text) n some word number quoted size found =
    let begins : BeginsMark b text = record { no_word = word; no_number = number; no_quote = quoted } in
    token_at (b ∷ text) n (punctuator_size (b ∷ text)) (Token Mark) size
    (sym (prefix_mark (punctuator_size (b ∷ text)) (omega arith))) (longest-mark b text begins (omega arith)) where
      prefix_mark : (m : ℕ) → 0 < m → lexeme_of (take m (b ∷ text)) ≡ Token Mark
      prefix_mark zero h = absurd (omega arith)
      prefix_mark (suc m) h =
          let single : is_quoted quote (b ∷ take m text) ≡ false = no-test (is_quoted quote (b ∷ take m text))
          (λ l. let e = literal-first b (take m text) (or-left (is_quoted quote (b ∷ take m text))
          (is_quoted double_quote (b ∷ take m text)) l) in absurd (cc)) in
          let double : is_quoted double_quote (b ∷ take m text) ≡ false = no-test
          (is_quoted double_quote (b ∷ take m text)) (λ l. let e = literal-first b (take m text)
          (or-right (is_quoted quote (b ∷ take m text)) (is_quoted double_quote (b ∷ take m text)) l) in
          absurd (cc)) in
          lexeme_of-mark (b ∷ take m text) (number-no_word b (take m text) word)
          (no-test (is_number (b ∷ take m text)) (λ x. let e = prefix-begins b text m
          (number-first b (take m text) x) in absurd (cc))) single double

pub IsTokenOrFault-bad : (rest : List ℕ) → 0 < length rest → is_nondigit (get_or rest 0 0) ≡ false
    → begins_number rest ≡ false → is_quote (get_or rest 0 0) ≡ false → punctuator_size rest ≡ 0
    → IsTokenOrFault rest 1 (Fault U1)
IsTokenOrFault-bad [] some word number quoted none = absurd (omega arith)
IsTokenOrFault-bad (b ∷ text) some word number quoted none = bad
    (no_mark b text (record { no_word = word; no_number = number; no_quote = quoted }) none) quoted

pub number-some : (rest : List ℕ) → begins_number rest ≡ true → 0 < length rest
number-some [] h = absurd (cc)
number-some (b ∷ text) h = omega arith

pub literal-some : (rest : List ℕ) → is_quote (get_or rest 0 0) ≡ true → 0 < length rest
literal-some [] h = absurd (cc)
literal-some (b ∷ text) h = omega arith
