-- The longest tokens that are words, numbers and literals.
use Rattle.std.proofs.Common.{◌≡◌, ℕ, zero, suc, ◌+◌, ◌<◌, ◌≤◌, Bool, true, false, List, [], ◌∷◌, length, take, refl}
use Rattle.std.proofs.Common.{arith, ⊎_elim}
use Rattle.std.specs.List.{list_all, prefix_len}
use Rattle.std.proofs.lemmas.List.Sums.{prefix_len-le-length}
use Rattle.ck_lexer.specs.Bytes.{is_nondigit, is_identifier_byte}
use Rattle.ck_lexer.specs.Preprocessing.{is_identifier, begins_number, is_preprocessing_token}
use Rattle.ck_lexer.specs.Lexemes.{IsLongestToken}
use Rattle.ck_lexer.proofs.Tests.{and-left, and-right, and-both, either-test}
use Rattle.ck_lexer.proofs.FirstBytes.{no_token, number-first, literal-first, punctuator-first, single-nondigit}
use Rattle.ck_lexer.proofs.FirstBytes.{nondigit-digit, nondigit-point, nondigit-quote}

-- runs of bytes that pass a test
all-run : (p : ℕ → Bool) (xs : List ℕ) → list_all p (take (prefix_len p xs) xs) ≡ true
all-run p [] = refl
all-run p (x ∷ xs) = ⊎_elim (λ (yes : p x ≡ true). let one : 1 + prefix_len p xs ≡ suc
    (prefix_len p xs) = omega arith in rw (yes, one) (rw yes (all-run p xs))) (λ (no : p x ≡ false). rw no refl)
    (either-test (p x))

all-longer : (p : ℕ → Bool) (xs : List ℕ) (m : ℕ) → prefix_len p xs < m → m ≤ length xs
    → list_all p (take m xs) ≡ true → ⊥
all-longer p [] m more fits all = absurd (omega arith)
all-longer p (x ∷ xs) zero more fits all = absurd (omega arith)
all-longer p (x ∷ xs) (suc m) more fits all =
    let yes : p x ≡ true = and-left (p x) (list_all p (take m xs)) all in
    let one : prefix_len p (x ∷ xs) ≡ 1 + prefix_len p xs = rw yes refl in
    all-longer p xs m (omega arith) (omega arith) (and-right (p x) (list_all p (take m xs)) all)

as_token_word : (text : List ℕ) → is_identifier text ≡ true → is_preprocessing_token text ≡ true
unfolding is_preprocessing_token
as_token_word text h = rw h refl

pub word-identifier : (b : ℕ) (text : List ℕ) → is_nondigit b ≡ true
    → is_identifier (b ∷ take (prefix_len is_identifier_byte text) text) ≡ true
word-identifier b text first = and-both (is_nondigit b) (list_all is_identifier_byte
    (take (prefix_len is_identifier_byte text) text)) first (all-run is_identifier_byte text)

pub longest-word : (b : ℕ) (text : List ℕ) → is_nondigit b ≡ true
    → IsLongestToken (b ∷ text) (suc (prefix_len is_identifier_byte text))
longest-word b text first = record {
  within = omega (arith, prefix_len-le-length is_identifier_byte text);
  token = as_token_word (b ∷ take (prefix_len is_identifier_byte text) text) (word-identifier b text first);
  longest = longer;
} where
  longer_by : (m : ℕ) → prefix_len is_identifier_byte text < m → m ≤ length text
      → is_preprocessing_token (b ∷ take m text) ≡ false
  longer_by m more fits =
      no_token (b ∷ take m text)
      (λ i. all-longer is_identifier_byte text m more fits (and-right (is_nondigit b)
      (list_all is_identifier_byte (take m text)) i))
      (λ n. no_number (take m text) (number-first b (take m text) n))
      (λ l. let q = literal-first b (take m text) l in let e = nondigit-quote b first in absurd (cc))
      (λ p. let e = single-nondigit b (punctuator-first b (take m text) p) in absurd (cc)) where
        no_number : (ys : List ℕ) → begins_number (b ∷ ys) ≡ true → ⊥
        no_number [] h = let e = nondigit-digit b first in absurd (cc)
        no_number (y ∷ ys) h = let d = nondigit-digit b first in let e = nondigit-point b first in
            let k : begins_number (b ∷ y ∷ ys) ≡ false = rw (d, e) refl in absurd (cc)

  longer : (m : ℕ) → suc (prefix_len is_identifier_byte text) < m → m ≤ length (b ∷ text)
      → is_preprocessing_token (take m (b ∷ text)) ≡ false
  longer zero more fits = absurd (omega arith)
  longer (suc m) more fits = longer_by m (omega arith) (omega arith)
