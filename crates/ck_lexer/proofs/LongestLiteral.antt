-- The longest token at a quote: the literal that the next such quote closes.
use Rattle.std.proofs.Common.{◌≡◌, ℕ, zero, suc, ◌<◌, ◌≤◌, true, false, List, ◌∷◌, length, take, drop, Some, None, refl}
use Rattle.std.proofs.Common.{sym, ap, ◌∙◌, arith, ⊎_elim, take-append-drop}
use Rattle.std.specs.Prelude.{◌||◌, ◌==◌}
use Rattle.std.proofs.lemmas.Bool.Decides.{nat_tests}
use Rattle.std.proofs.lemmas.List.{length-take-le}
use Rattle.ck_base.specs.Characters.{backslash}
use Rattle.ck_lexer.specs.Bytes.{is_quote, quote, double_quote}
use Rattle.ck_lexer.specs.Preprocessing.{is_identifier, is_number, is_literal, is_quoted, is_closed, is_punctuator}
use Rattle.ck_lexer.specs.Preprocessing.{is_preprocessing_token}
use Rattle.ck_lexer.specs.Lexemes.{IsLongestToken, BeginsNoToken}
use Rattle.ck_lexer.specs.Scanning.{closing}
use Rattle.ck_lexer.proofs.Tests.{and-left, and-right, and-both, or-left, or-right, or-either, eqb-same}
use Rattle.ck_lexer.proofs.FirstBytes.{no_token, number-first, punctuator-first, identifier-first, single-quote}
use Rattle.ck_lexer.proofs.FirstBytes.{nondigit-quote}
use Rattle.ck_lexer.proofs.LongestNumber.{number-no_quote}
use Rattle.ck_lexer.proofs.LiteralLemmas.{closing-is_closed, is_closed-closing}

quote-no_backslash : (b : ℕ) → is_quote b ≡ true → (b == backslash) ≡ false
quote-no_backslash b h = grind (arith, nat_tests)

-- a quote's literal is closed by that quote
literal-closed : (b : ℕ) (text : List ℕ) → is_literal (b ∷ text) ≡ true → is_closed b text ≡ true
literal-closed b text h =
    ⊎_elim
    (λ (x : is_quoted quote (b ∷ text) ≡ true). let e : b ≡ quote = eqb-same b quote
    (and-left (b == quote) (is_closed quote text) x) in rw e (and-right (b == quote) (is_closed quote text) x))
    (λ (x : is_quoted double_quote (b ∷ text) ≡ true). let e : b ≡ double_quote = eqb-same b double_quote
    (and-left (b == double_quote) (is_closed double_quote text) x) in
    rw e (and-right (b == double_quote) (is_closed double_quote text) x))
    (or-either (is_quoted quote (b ∷ text)) (is_quoted double_quote (b ∷ text)) h)

closed-literal : (b : ℕ) (text : List ℕ) → is_quote b ≡ true → is_closed b text ≡ true → is_literal (b ∷ text) ≡ true
closed-literal b text q h =
    ⊎_elim
    (λ (x : (b == double_quote) ≡ true). let e : b ≡ double_quote = eqb-same b double_quote x in
    or-right (is_quoted quote (b ∷ text)) (is_quoted double_quote (b ∷ text))
    (and-both (b == double_quote) (is_closed double_quote text) x (rw e at h)))
    (λ (x : (b == quote) ≡ true). let e : b ≡ quote = eqb-same b quote x in
    or-left (is_quoted quote (b ∷ text)) (is_quoted double_quote (b ∷ text))
    (and-both (b == quote) (is_closed quote text) x (rw e at h)))
    (or-either (b == double_quote) (b == quote) q)

as_token_literal : (text : List ℕ) → is_literal text ≡ true → is_preprocessing_token text ≡ true
unfolding is_preprocessing_token
as_token_literal text h = or-left (is_identifier text || is_number text || is_literal text) (is_punctuator text)
    (or-right (is_identifier text || is_number text) (is_literal text) h)

-- a token at a quote is a literal
only_literal : (b : ℕ) (text : List ℕ) → is_quote b ≡ true → (is_closed b text ≡ true → ⊥)
    → is_preprocessing_token (b ∷ text) ≡ false
only_literal b text q open_ =
    no_token (b ∷ text)
    (λ i. let e = nondigit-quote b (identifier-first b text i) in absurd (cc))
    (λ n. let e = number-no_quote b text (number-first b text n) in absurd (cc))
    (λ l. open_ (literal-closed b text l))
    (λ p. let e = single-quote b (punctuator-first b text p) in absurd (cc))

-- a closed prefix fixes where the literal closes
closed-closing : (b : ℕ) (text : List ℕ) (m : ℕ) → is_quote b ≡ true → m ≤ length text
    → is_closed b (take m text) ≡ true → closing b text ≡ Some m
closed-closing b text m q fits h =
    ap (closing b) (sym (take-append-drop m text)) ∙ (is_closed-closing b (take m text) (drop m text)
    (quote-no_backslash b q) h ∙ ap Some (length-take-le m text fits))

pub longest-literal : (b : ℕ) (text : List ℕ) (k : ℕ) → is_quote b ≡ true → closing b text ≡ Some k
    → IsLongestToken (b ∷ text) (suc k)
longest-literal b text k q found = record {
  within = let c = closing-is_closed b text k found in omega (arith, c.1);
  token = as_token_literal (b ∷ take k text) (closed-literal b (take k text) q (closing-is_closed b text k found).0);
  longest = longer;
} where
  longer : (m : ℕ) → suc k < m → m ≤ length (b ∷ text) → is_preprocessing_token (take m (b ∷ text)) ≡ false
  longer zero more fits = absurd (omega arith)
  longer (suc m) more fits = only_literal b (take m text) q (λ h. let e : Some m ≡ Some k = sym
      (closed-closing b text m q (omega arith) h) ∙ found in let d : m ≡ k = cc in absurd (omega arith))

pub no_literal : (b : ℕ) (text : List ℕ) → is_quote b ≡ true → closing b text ≡ None → BeginsNoToken (b ∷ text)
unfolding is_preprocessing_token is_punctuator
no_literal b text q none zero fits = refl
no_literal b text q none (suc m) fits = only_literal b (take m text) q
    (λ h. let e = closed-closing b text m q (omega arith) h in absurd (cc))
