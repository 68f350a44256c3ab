-- The longest token at any other byte: a punctuator, or none.
use Rattle.std.proofs.Common.{◌≡◌, ℕ, zero, suc, ◌<◌, ◌≤◌, true, false, List, ◌∷◌, length, take, refl, arith}
use Rattle.std.specs.Prelude.{◌||◌}
use Rattle.ck_lexer.specs.Bytes.{is_nondigit, is_quote}
use Rattle.ck_lexer.specs.Preprocessing.{is_identifier, is_number, is_literal, is_punctuator, begins_number}
use Rattle.ck_lexer.specs.Preprocessing.{is_preprocessing_token}
use Rattle.ck_lexer.specs.Lexemes.{IsLongestToken, BeginsNoToken}
use Rattle.ck_lexer.specs.Scanning.{punctuator_size}
use Rattle.ck_lexer.proofs.Tests.{or-right}
use Rattle.ck_lexer.proofs.FirstBytes.{no_token, number-first, literal-first, identifier-first}
use Rattle.ck_lexer.proofs.LongestNumber.{prefix-begins}
use Rattle.ck_lexer.proofs.Punctuators.{punctuator-le, mark-fits, mark-punctuator}

-- no other token than a punctuator begins with the first byte
pub record BeginsMark (b : ℕ) (text : List ℕ) : Type 0 where
  pub no_word : is_nondigit b ≡ false
  pub no_number : begins_number (b ∷ text) ≡ false
  pub no_quote : is_quote b ≡ false

as_token_mark : (text : List ℕ) → is_punctuator text ≡ true → is_preprocessing_token text ≡ true
unfolding is_preprocessing_token
as_token_mark text h = or-right (is_identifier text || is_number text || is_literal text) (is_punctuator text) h

only_mark : (b : ℕ) (text : List ℕ) (m : ℕ) → BeginsMark b text → (is_punctuator (b ∷ take m text) ≡ true → ⊥)
    → is_preprocessing_token (b ∷ take m text) ≡ false
only_mark b text m begins none =
    no_token (b ∷ take m text)
    (λ i. let e = identifier-first b (take m text) i in let f = begins.no_word in absurd (cc))
    (λ n. let e = prefix-begins b text m (number-first b (take m text) n) in let f = begins.no_number in absurd (cc))
    (λ l. let e = literal-first b (take m text) l in let f = begins.no_quote in absurd (cc))
    none

pub longest-mark : (b : ℕ) (text : List ℕ) → BeginsMark b text → 0 < punctuator_size (b ∷ text)
    → IsLongestToken (b ∷ text) (punctuator_size (b ∷ text))
longest-mark b text begins some = record {
  within = mark-fits (b ∷ text);
  token = as_token_mark (take (punctuator_size (b ∷ text)) (b ∷ text)) (mark-punctuator (b ∷ text) some);
  longest = longer;
} where
  longer : (m : ℕ) → punctuator_size (b ∷ text) < m → m ≤ length (b ∷ text)
      → is_preprocessing_token (take m (b ∷ text)) ≡ false
  longer zero more fits = absurd (omega arith)
  longer (suc m) more fits = only_mark b text m begins (λ p. let le = punctuator-le (b ∷ text) (suc m) p fits in
      absurd (omega arith))

pub no_mark : (b : ℕ) (text : List ℕ) → BeginsMark b text → punctuator_size (b ∷ text) ≡ 0 → BeginsNoToken (b ∷ text)
unfolding is_preprocessing_token is_punctuator
no_mark b text begins none zero fits = refl
no_mark b text begins none (suc m) fits = only_mark b text m begins
    (λ p. let le = punctuator-le (b ∷ text) (suc m) p fits in absurd (omega arith))
