-- Literals: how many bytes go up to the quote that closes one, and what those bytes are.
use Rattle.std.proofs.Common.{◌≡◌, ℕ, zero, suc, ◌+◌, ◌<◌, ◌≤◌, Bool, true, false, not, ◌&&◌, ◌==◌, List, [], ◌∷◌, ◌++◌}
use Rattle.std.proofs.Common.{length, take, Option, Some, None, refl, ap, subst, arith}
use Rattle.std.specs.Option.{option_map}
use Rattle.std.proofs.lemmas.Bool.{and_parts, eqb-true}
use Rattle.std.proofs.lemmas.Bool.Decides.{nat_tests}
use Rattle.std.proofs.lemmas.Option.{cond_some, none-some}
use Rattle.ck_base.specs.Characters.{backslash}
use Rattle.ck_lexer.specs.Bytes.{is_line_feed}
use Rattle.ck_lexer.specs.Preprocessing.{is_closed}
use Rattle.ck_lexer.specs.Scanning.{closing}

pub either : {P : Type 0} (v : Bool) → (v ≡ true → P) → (v ≡ false → P) → P
either true p q = p refl
either false p q = q refl

-- the first `n` bytes are the rest of a literal after its first quote
abbrev pub ClosedAt : ℕ → List ℕ → ℕ → Type 0
ClosedAt mark text n = (is_closed mark (take n text) ≡ true) × (n ≤ length text) × (0 < n)

mapped : (f : ℕ → ℕ) (o : Option ℕ) (n : ℕ) → option_map f o ≡ Some n → (k : ℕ) × (o ≡ Some k) × (f k ≡ n)
mapped f None n e = absurd (cc)
mapped f (Some k) n e = (k, refl, cc)

closed_one : (mark b : ℕ) (text : List ℕ) (n : ℕ) → (b == mark) ≡ true → 1 ≡ n → ClosedAt mark (b ∷ text) n
closed_one mark b text n same e = subst (λ m. ClosedAt mark (b ∷ text) m) e (same, omega arith, omega arith)

closed_escape : (mark b c : ℕ) (text : List ℕ) (k n : ℕ) → (b == backslash) ≡ true → is_line_feed c ≡ false
    → ClosedAt mark text k → k + 2 ≡ n → ClosedAt mark (b ∷ c ∷ text) n
closed_escape mark b c text k n escape other rest e =
    let two : n ≡ suc (suc k) = omega arith in
    rw two (rw (escape, other) rest.0, omega (arith, rest.1), omega arith)

closed_more : (mark b c : ℕ) (text : List ℕ) (k n : ℕ) → (b == backslash) ≡ false → (b == mark) ≡ false
    → is_line_feed b ≡ false → ClosedAt mark (c ∷ text) k → k + 1 ≡ n → ClosedAt mark (b ∷ c ∷ text) n
closed_more mark b c text zero n plain inner other rest e = absurd (omega (arith, rest.2))
closed_more mark b c text (suc k) n plain inner other rest e =
    let two : n ≡ suc (suc k) = omega arith in
    rw two (rw (plain, inner, other) rest.0, omega (arith, rest.1), omega arith)

abbrev ClosingCloses : ℕ → List ℕ → Type 0
ClosingCloses mark text = (n : ℕ) → closing mark text ≡ Some n → ClosedAt mark text n

closing_step : (mark b c : ℕ) (text : List ℕ) → ClosingCloses mark text → ClosingCloses mark (c ∷ text)
    → ClosingCloses mark (b ∷ c ∷ text)
closing_step mark b c text after next n e = either (b == backslash) escaped plain where
  escaped : (b == backslash) ≡ true → ClosedAt mark (b ∷ c ∷ text) n
  escaped escape = either (is_line_feed c) (λ feed. absurd (none-some n (rw (escape, feed) at e))) go where
    go : is_line_feed c ≡ false → ClosedAt mark (b ∷ c ∷ text) n
    go other =
        let rest = mapped (λ k. k + 2) (closing mark text) n (rw (escape, other) at e) in
        closed_escape mark b c text rest.0 n escape other (after rest.0 rest.1) rest.2

  plain : (b == backslash) ≡ false → ClosedAt mark (b ∷ c ∷ text) n
  plain no_escape = either (b == mark) ends goes_on where
    one : Some 1 ≡ Some n → 1 ≡ n
    one f = cc

    ends : (b == mark) ≡ true → ClosedAt mark (b ∷ c ∷ text) n
    ends same = closed_one mark b (c ∷ text) n same (one (rw (no_escape, same) at e))

    goes_on : (b == mark) ≡ false → ClosedAt mark (b ∷ c ∷ text) n
    goes_on inner = either (is_line_feed b) (λ feed. absurd (none-some n (rw (no_escape, inner, feed) at e))) go where
      go : is_line_feed b ≡ false → ClosedAt mark (b ∷ c ∷ text) n
      go other =
          let rest = mapped (λ k. k + 1) (closing mark (c ∷ text)) n (rw (no_escape, inner, other) at e) in
          closed_more mark b c text rest.0 n no_escape inner other (next rest.0 rest.1) rest.2

pub closing-is_closed : (mark : ℕ) (text : List ℕ) (n : ℕ) → closing mark text ≡ Some n
    → (is_closed mark (take n text) ≡ true) × (n ≤ length text) × (0 < n)
closing-is_closed mark [] n e = absurd (cc)
closing-is_closed mark (b ∷ []) n e = let parts = cond_some (b == mark) 1 n e in closed_one mark b [] n parts.0 parts.1
closing-is_closed mark (b ∷ c ∷ text) n e =
    closing_step mark b c text (λ k f. closing-is_closed mark text k f)
    (λ k f. closing-is_closed mark (c ∷ text) k f) n e

-- a quote is no backslash
no_escape_of : (mark b : ℕ) → (mark == backslash) ≡ false → (b == mark) ≡ true → (b == backslash) ≡ false
no_escape_of mark b other same = grind (arith, nat_tests)

ends_here : (mark b : ℕ) (more : List ℕ) → (mark == backslash) ≡ false → (b == mark) ≡ true
    → closing mark (b ∷ more) ≡ Some 1
ends_here mark b [] other same = rw same refl
ends_here mark b (c ∷ more) other same = let plain : (b == backslash) ≡ false = no_escape_of mark b other same in
    rw (plain, same) refl

abbrev ClosesAll : ℕ → List ℕ → List ℕ → Type 0
ClosesAll mark text more = closing mark (text ++ more) ≡ Some (length text)

some_more : (i k : ℕ) (o : Option ℕ) (n : ℕ) → o ≡ Some k → k + i ≡ n → option_map (λ j. j + i) o ≡ Some n
some_more i k o n e same = rw e (ap Some same)

not_true : (v : Bool) → not v ≡ true → v ≡ false
not_true true e = cc
not_true false e = refl

all_step : (mark b c : ℕ) (text more : List ℕ) → (is_closed mark text ≡ true → ClosesAll mark text more)
    → (is_closed mark (c ∷ text) ≡ true → ClosesAll mark (c ∷ text) more) → is_closed mark (b ∷ c ∷ text) ≡ true
    → ClosesAll mark (b ∷ c ∷ text) more
all_step mark b c text more after next e = either (b == backslash) escaped plain where
  two : length text + 2 ≡ suc (suc (length text))
  two = omega arith

  one : suc (length text) + 1 ≡ suc (suc (length text))
  one = omega arith

  escaped : (b == backslash) ≡ true → ClosesAll mark (b ∷ c ∷ text) more
  escaped escape =
      let parts = and_parts (not (is_line_feed c)) (is_closed mark text) (rw escape at e) in
      let inner : is_line_feed c ≡ false = not_true (is_line_feed c) parts.0 in
      rw (escape, inner) (some_more 2 (length text) (closing mark (text ++ more)) (suc (suc (length text)))
      (after parts.1) two)

  plain : (b == backslash) ≡ false → ClosesAll mark (b ∷ c ∷ text) more
  plain no_escape =
      let parts = and_parts (not (b == mark) && not (is_line_feed b)) (is_closed mark (c ∷ text)) (rw no_escape at e) in
      let tests = and_parts (not (b == mark)) (not (is_line_feed b)) parts.0 in
      let inner : (b == mark) ≡ false = not_true (b == mark) tests.0 in
      let same_line : is_line_feed b ≡ false = not_true (is_line_feed b) tests.1 in
      rw (no_escape, inner, same_line) (some_more 1 (suc (length text)) (closing mark (c ∷ (text ++ more)))
      (suc (suc (length text))) (next parts.1) one)

pub is_closed-closing : (mark : ℕ) (text more : List ℕ) → (mark == backslash) ≡ false → is_closed mark text ≡ true
    → closing mark (text ++ more) ≡ Some (length text)
is_closed-closing mark [] more other e = absurd (cc)
is_closed-closing mark (b ∷ []) more other e = ends_here mark b more other e
is_closed-closing mark (b ∷ c ∷ text) more other e =
    all_step mark b c text more (λ f. is_closed-closing mark text more other f)
    (λ f. is_closed-closing mark (c ∷ text) more other f) e

abbrev EndsWith : ℕ → List ℕ → Type 0
EndsWith mark text = (inner : List ℕ) × (text ≡ inner ++ mark ∷ [])

last_step : (mark b c : ℕ) (text : List ℕ) → (is_closed mark text ≡ true → EndsWith mark text)
    → (is_closed mark (c ∷ text) ≡ true → EndsWith mark (c ∷ text)) → is_closed mark (b ∷ c ∷ text) ≡ true
    → EndsWith mark (b ∷ c ∷ text)
last_step mark b c text after next e = either (b == backslash) escaped plain where
  escaped : (b == backslash) ≡ true → EndsWith mark (b ∷ c ∷ text)
  escaped escape =
      let rest = after (and_parts (not (is_line_feed c)) (is_closed mark text) (rw escape at e)).1 in
      (b ∷ c ∷ rest.0, ap (λ t. b ∷ c ∷ t) rest.1)

  plain : (b == backslash) ≡ false → EndsWith mark (b ∷ c ∷ text)
  plain no_escape =
      let rest = next (and_parts (not (b == mark) && not (is_line_feed b)) (is_closed mark (c ∷ text))
      (rw no_escape at e)).1 in
      (b ∷ rest.0, ap (λ t. b ∷ t) rest.1)

-- the rest of a literal ends with its quote
pub is_closed-last : (mark : ℕ) (text : List ℕ) → is_closed mark text ≡ true
    → (inner : List ℕ) × (text ≡ inner ++ mark ∷ [])
is_closed-last mark [] e = absurd (cc)
is_closed-last mark (b ∷ []) e = ([], ap (λ x. x ∷ []) (eqb-true b mark e))
is_closed-last mark (b ∷ c ∷ text) e = last_step mark b c text (λ f. is_closed-last mark text f)
    (λ f. is_closed-last mark (c ∷ text) f) e
