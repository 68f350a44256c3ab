-- The longest token at a byte that begins a number.
use Rattle.std.proofs.Common.{◌≡◌, ℕ, zero, suc, ◌<◌, ◌≤◌, true, false, List, [], ◌∷◌, length, take, get_or, ◌⊎◌, inl}
use Rattle.std.proofs.Common.{inr, refl, ap, ◌∙◌, arith, ⊎_elim}
use Rattle.std.specs.Prelude.{◌&&◌, ◌||◌, ◌==◌}
use Rattle.std.proofs.lemmas.Bool.Decides.{nat_tests}
use Rattle.ck_base.specs.Characters.{is_digit}
use Rattle.ck_lexer.specs.Bytes.{is_nondigit, is_identifier_byte, is_quote}
use Rattle.ck_lexer.specs.Preprocessing.{is_identifier, is_number, is_literal, is_punctuator, begins_number, goes_on}
use Rattle.ck_lexer.specs.Preprocessing.{go_on_after, is_preprocessing_token}
use Rattle.ck_lexer.specs.Lexemes.{IsLongestToken}
use Rattle.ck_lexer.specs.Scanning.{run_after, punctuator_size}
use Rattle.ck_lexer.proofs.Tests.{and-left, and-right, and-both, or-left, or-right, or-either, no-test, eqb-same}
use Rattle.ck_lexer.proofs.Tests.{either-test}
use Rattle.ck_lexer.proofs.FirstBytes.{no_token, literal-first, punctuator-first, identifier-first, single-digit}
use Rattle.ck_lexer.proofs.FirstBytes.{digit-quote, nondigit-digit}
use Rattle.ck_lexer.proofs.Punctuators.{punctuator-le}

-- a run of bytes that go on
run-goes_on : (last : ℕ) (text : List ℕ) → go_on_after last (take (run_after last text) text) ≡ true
run-goes_on last [] = refl
run-goes_on last (b ∷ text) = ⊎_elim (λ (yes : goes_on last b ≡ true). rw yes (rw yes (run-goes_on b text)))
    (λ (no : goes_on last b ≡ false). rw no refl) (either-test (goes_on last b))

run-longer : (last : ℕ) (text : List ℕ) (m : ℕ) → run_after last text < m → m ≤ length text
    → go_on_after last (take m text) ≡ true → ⊥
run-longer last [] m more fits all = absurd (omega arith)
run-longer last (b ∷ text) zero more fits all = absurd (omega arith)
run-longer last (b ∷ text) (suc m) more fits all =
    let yes : goes_on last b ≡ true = and-left (goes_on last b) (go_on_after b (take m text)) all in
    let one : run_after last (b ∷ text) ≡ suc (run_after b text) = rw yes refl in
    run-longer b text m (omega arith) (omega arith) (and-right (goes_on last b) (go_on_after b (take m text)) all)

pub run-fits : (last : ℕ) (text : List ℕ) → run_after last text ≤ length text
run-fits last [] = omega arith
run-fits last (b ∷ text) = ⊎_elim (λ (yes : goes_on last b ≡ true). rw yes (omega (arith, run-fits b text)))
    (λ (no : goes_on last b ≡ false). rw no (omega arith)) (either-test (goes_on last b))

digit-goes_on : (last b : ℕ) → is_digit b ≡ true → goes_on last b ≡ true
digit-goes_on last b h = or-left (is_identifier_byte b || b == 46) _
    (or-left (is_identifier_byte b) (b == 46) (or-right (is_nondigit b) (is_digit b) h))

as_token_number : (text : List ℕ) → is_number text ≡ true → is_preprocessing_token text ≡ true
unfolding is_preprocessing_token
as_token_number text h = or-left (is_identifier text || is_number text || is_literal text) (is_punctuator text)
    (or-left (is_identifier text || is_number text) (is_literal text)
    (or-right (is_identifier text) (is_number text) h))

-- the whole run begins as the rest does
begins-prefix : (b : ℕ) (text : List ℕ) → begins_number (b ∷ text) ≡ true
    → begins_number (b ∷ take (run_after b text) text) ≡ true
begins-prefix b [] h = h
begins-prefix b (c ∷ text) h =
    ⊎_elim
    (λ (yes : goes_on b c ≡ true). rw yes h)
    (λ (no : goes_on b c ≡ false). rw no (⊎_elim (λ (d : is_digit b ≡ true). d)
    (λ (p : (b == 46 && is_digit c) ≡ true). let k = digit-goes_on b c (and-right (b == 46) (is_digit c) p) in
    absurd (cc)) (or-either (is_digit b) (b == 46 && is_digit c) h)))
    (either-test (goes_on b c))

-- a number begins with a digit or with a point and a digit
number-begins : (b : ℕ) (text : List ℕ) → begins_number (b ∷ text) ≡ true
    → (is_digit b ≡ true) ⊎ ((b ≡ 46) × is_digit (get_or text 0 0) ≡ true)
number-begins b [] h = inl h
number-begins b (c ∷ text) h = ⊎_elim (λ (d : is_digit b ≡ true). inl d)
    (λ (p : (b == 46 && is_digit c) ≡ true). inr (
      eqb-same b 46 (and-left (b == 46) (is_digit c) p),
      and-right
          (b == 46) (is_digit c) p,
    )) (or-either (is_digit b) (b == 46 && is_digit c) h)

pub number-no_identifier : (b : ℕ) (text : List ℕ) → begins_number (b ∷ text) ≡ true → is_nondigit b ≡ false
number-no_identifier b text h =
    ⊎_elim
    (λ (d : is_digit b ≡ true). no-test (is_nondigit b) (λ n. let k = nondigit-digit b n in absurd (cc)))
    (λ (p : (b ≡ 46) × is_digit (get_or text 0 0) ≡ true). rw p.0 refl)
    (number-begins b text h)

pub number-no_quote : (b : ℕ) (text : List ℕ) → begins_number (b ∷ text) ≡ true → is_quote b ≡ false
number-no_quote b text h =
    ⊎_elim
    (λ (d : is_digit b ≡ true). digit-quote b d)
    (λ (p : (b ≡ 46) × is_digit (get_or text 0 0) ≡ true). rw p.0 refl)
    (number-begins b text h)

point-size : (text : List ℕ) → is_digit (get_or text 0 0) ≡ true → punctuator_size (46 ∷ text) ≡ 1
point-size text d =
    let point : (get_or text 0 0 == 46) ≡ false = grind (arith, nat_tests) in
    let equals : (get_or text 0 0 == 61) ≡ false = grind (arith, nat_tests) in
    rw (point, equals) refl

-- at most a point is a punctuator here, and the number is longer
number-no_mark : (b : ℕ) (text : List ℕ) (m : ℕ) → begins_number (b ∷ text) ≡ true
    → is_punctuator (b ∷ take m text) ≡ true → m ≤ length text → m ≤ run_after b text
number-no_mark b text m h p fits =
    ⊎_elim
    (λ (d : is_digit b ≡ true). let k = single-digit b (punctuator-first b (take m text) p) in absurd (cc))
    (λ (e : (b ≡ 46) × is_digit (get_or text 0 0) ≡ true).
    let le = punctuator-le (b ∷ text) (suc m) p (omega arith) in
    let one : punctuator_size (b ∷ text) ≡ 1 = ap (λ x. punctuator_size (x ∷ text)) e.0 ∙ point-size text e.1 in
    omega arith)
    (number-begins b text h)

pub number-number : (b : ℕ) (text : List ℕ) → begins_number (b ∷ text) ≡ true
    → is_number (b ∷ take (run_after b text) text) ≡ true
number-number b text first = and-both (begins_number (b ∷ take (run_after b text) text))
    (go_on_after b (take (run_after b text) text)) (begins-prefix b text first) (run-goes_on b text)

pub longest-number : (b : ℕ) (text : List ℕ) → begins_number (b ∷ text) ≡ true
    → IsLongestToken (b ∷ text) (suc (run_after b text))
longest-number b text first = record {
  within = omega (arith, run-fits b text);
  token = as_token_number (b ∷ take (run_after b text) text) (number-number b text first);
  longest = longer;
} where
  longer_by : (m : ℕ) → run_after b text < m → m ≤ length text → is_preprocessing_token (b ∷ take m text) ≡ false
  longer_by m more fits =
      no_token (b ∷ take m text)
      (λ i. let e = number-no_identifier b text first in let n = identifier-first b (take m text) i in absurd (cc))
      (λ n. run-longer b text m more fits (and-right (begins_number (b ∷ take m text)) (go_on_after b (take m text)) n))
      (λ l. let q = literal-first b (take m text) l in let e = number-no_quote b text first in absurd (cc))
      (λ p. let le = number-no_mark b text m first p fits in omega arith)

  longer : (m : ℕ) → suc (run_after b text) < m → m ≤ length (b ∷ text)
      → is_preprocessing_token (take m (b ∷ text)) ≡ false
  longer zero more fits = absurd (omega arith)
  longer (suc m) more fits = longer_by m (omega arith) (omega arith)

-- what begins a prefix begins the whole
pub prefix-begins : (b : ℕ) (text : List ℕ) (m : ℕ) → begins_number (b ∷ take m text) ≡ true
    → begins_number (b ∷ text) ≡ true
prefix-begins b [] zero h = h
prefix-begins b [] (suc m) h = h
prefix-begins b (c ∷ text) zero h = or-left (is_digit b) (b == 46 && is_digit c) h
prefix-begins b (c ∷ text) (suc m) h = h
