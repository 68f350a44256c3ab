-- What the first byte of a preprocessing token says of it.
use Rattle.std.proofs.Common.{◌≡◌, ℕ, Bool, true, false, List, [], ◌∷◌, ◌⊎◌, inl, inr, refl, arith}
use Rattle.std.specs.Prelude.{◌||◌, ◌==◌, not, codes}
use Rattle.std.specs.List.{list_all}
use Rattle.std.proofs.lemmas.Bool.Decides.{nat_tests}
use Rattle.ck_base.specs.Characters.{is_digit}
use Rattle.ck_lexer.specs.Bytes.{is_nondigit, is_identifier_byte, is_quote, quote, double_quote}
use Rattle.ck_lexer.specs.Preprocessing.{is_identifier, is_number, begins_number, go_on_after, is_literal, is_quoted}
use Rattle.ck_lexer.specs.Preprocessing.{is_closed, is_punctuator, punctuators, is_preprocessing_token}
use Rattle.ck_lexer.specs.Scanning.{is_single}
use Rattle.ck_lexer.proofs.Tests.{and-left, or-either, or-none, no-test, from-not, among-texts, among-bytes, eqb-same}

abbrev begins_single : List ℕ → Bool
begins_single [] = false
begins_single (b ∷ text) = is_single b

pub punctuator-first : (b : ℕ) (text : List ℕ) → is_punctuator (b ∷ text) ≡ true → is_single b ≡ true
unfolding is_punctuator
punctuator-first b text h = among-texts begins_single (b ∷ text) punctuators refl h

pub identifier-first : (b : ℕ) (text : List ℕ) → is_identifier (b ∷ text) ≡ true → is_nondigit b ≡ true
identifier-first b text h = and-left (is_nondigit b) (list_all is_identifier_byte text) h

pub number-first : (b : ℕ) (text : List ℕ) → is_number (b ∷ text) ≡ true → begins_number (b ∷ text) ≡ true
number-first b text h = and-left (begins_number (b ∷ text)) (go_on_after b text) h

pub literal-first : (b : ℕ) (text : List ℕ) → is_literal (b ∷ text) ≡ true → is_quote b ≡ true
literal-first b text h = here (or-either (is_quoted quote (b ∷ text)) (is_quoted double_quote (b ∷ text)) h) where
  here : (is_quoted quote (b ∷ text) ≡ true) ⊎ (is_quoted double_quote (b ∷ text) ≡ true) → is_quote b ≡ true
  here (inl x) = let e : b ≡ quote = eqb-same b quote (and-left (b == quote) (is_closed quote text) x) in rw e refl
  here (inr x) = let e : b ≡ double_quote = eqb-same b double_quote
      (and-left (b == double_quote) (is_closed double_quote text) x) in rw e refl

-- a text that is none of the four is no token
pub no_token : (text : List ℕ) → (is_identifier text ≡ true → ⊥) → (is_number text ≡ true → ⊥)
    → (is_literal text ≡ true → ⊥) → (is_punctuator text ≡ true → ⊥) → is_preprocessing_token text ≡ false
unfolding is_preprocessing_token
no_token text i n l p =
    or-none (is_identifier text || is_number text || is_literal text) (is_punctuator text)
    (or-none (is_identifier text || is_number text) (is_literal text)
    (or-none (is_identifier text) (is_number text) (no-test (is_identifier text) i) (no-test (is_number text) n))
    (no-test (is_literal text) l))
    (no-test (is_punctuator text) p)

-- the classes of first bytes exclude each other
pub single-nondigit : (b : ℕ) → is_single b ≡ true → is_nondigit b ≡ false
single-nondigit b h =
    from-not (is_nondigit b)
    (among-bytes (λ x. not (is_nondigit x)) b (codes "[](){}.&*+-~!/%<>^|?:;=,") refl h)

pub single-digit : (b : ℕ) → is_single b ≡ true → is_digit b ≡ false
single-digit b h =
    from-not (is_digit b)
    (among-bytes (λ x. not (is_digit x)) b (codes "[](){}.&*+-~!/%<>^|?:;=,") refl h)

pub single-quote : (b : ℕ) → is_single b ≡ true → is_quote b ≡ false
single-quote b h =
    from-not (is_quote b)
    (among-bytes (λ x. not (is_quote x)) b (codes "[](){}.&*+-~!/%<>^|?:;=,") refl h)

pub nondigit-digit : (b : ℕ) → is_nondigit b ≡ true → is_digit b ≡ false
nondigit-digit b h = grind (arith, nat_tests)

pub nondigit-point : (b : ℕ) → is_nondigit b ≡ true → (b == 46) ≡ false
nondigit-point b h = grind (arith, nat_tests)

pub nondigit-quote : (b : ℕ) → is_nondigit b ≡ true → is_quote b ≡ false
nondigit-quote b h = grind (arith, nat_tests)

pub digit-quote : (b : ℕ) → is_digit b ≡ true → is_quote b ≡ false
digit-quote b h = grind (arith, nat_tests)
