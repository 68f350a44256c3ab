-- Characters and escapes, one after the other: what the code finds is what the definitions say.
use Rattle.std.proofs.Common.{◌≡◌, ℕ, zero, suc, ◌+◌, ◌<◌, ◌≤◌, Bool, true, false, List, [], ◌∷◌, length, take, drop}
use Rattle.std.proofs.Common.{Option, Some, None, ap, sym, ◌∙◌, refl, arith, take_all, get_or, subst}
use Rattle.std.specs.Prelude.{◌&&◌, ◌==◌, min, nat_le, if◌then◌else◌}
use Rattle.std.specs.List.{list_all, prefix_len}
use Rattle.std.specs.Option.{is_some, unwrap_or}
use Rattle.std.proofs.lemmas.Bool.{and_parts, eqb-true}
use Rattle.std.proofs.lemmas.Bool.Decides.{nat_tests}
use Rattle.std.proofs.lemmas.Option.{cond_some, none-some}
use Rattle.std.proofs.lemmas.List.{drop-drop, length-drop, length-take-le}
use Rattle.std.proofs.lemmas.List.Sums.{prefix_len-le-length}
use Rattle.ck_base.specs.Characters.{◌∈◌, backslash, is_octal_digit, is_hexadecimal_digit}
use Rattle.ck_base.specs.CharacterConstants.{is_character, is_simple_escape, is_octal_escape, is_hexadecimal_escape}
use Rattle.ck_base.specs.CharacterConstants.{escape_value, if_byte, escape_size, character_size, characters}
use Rattle.ck_base.specs.CharacterConstants.{first_characters}
use Rattle.ck_base.specs.CharacterConstants.{are_characters}
use Rattle.ck_base.specs.IntegerConstants.{value_of}
use Rattle.ck_lexer.specs.Scanning.{size_if_byte, escape_length, after_backslash, character_length}
use Rattle.ck_lexer.specs.Scanning.{is_one_character}
use Rattle.ck_lexer.proofs.LiteralLemmas.{either}
use Rattle.ck_lexer.proofs.Tests.{and-both}

-- octal digits and `x` are no simple escapes
octal-no_simple : (b : ℕ) → is_octal_digit b ≡ true → is_simple_escape b ≡ false
octal-no_simple b h = grind (arith, nat_tests)

x-no_octal : (b : ℕ) → (b ∈ "x") ≡ true → is_octal_digit b ≡ false
x-no_octal b h = grind (arith, nat_tests)

x-no_simple : (b : ℕ) → (b ∈ "x") ≡ true → is_simple_escape b ≡ false
x-no_simple b h = grind (arith, nat_tests)

simple-no_octal : (b : ℕ) → is_simple_escape b ≡ true → is_octal_digit b ≡ false
simple-no_octal b h = grind (arith, nat_tests)

simple-no_x : (b : ℕ) → is_simple_escape b ≡ true → (b ∈ "x") ≡ false
simple-no_x b h = grind (arith, nat_tests)

-- the first bytes of a run are of its class, and a whole text of the class is a run
taken-one : (p : ℕ → Bool) (n b : ℕ) (text : List ℕ)
    → (n ≤ prefix_len p text → list_all p (take n text) ≡ true)
    → suc n ≤ prefix_len p (b ∷ text) → list_all p (b ∷ take n text) ≡ true
taken-one p n b text rest within = either (p b)
    (λ h. let e : prefix_len p (b ∷ text) ≡ 1 + prefix_len p text = rw h refl in
    rw h (rest (omega (arith, e))))
    (λ h. let e : prefix_len p (b ∷ text) ≡ 0 = rw h refl in absurd (omega (arith, e)))

all-within_prefix : (p : ℕ → Bool) (n : ℕ) (text : List ℕ) → n ≤ prefix_len p text → list_all p (take n text) ≡ true
all-within_prefix p zero text within = refl
all-within_prefix p (suc n) [] within = refl
all-within_prefix p (suc n) (b ∷ text) within = taken-one p n b text (all-within_prefix p n text) within

prefix-whole : (p : ℕ → Bool) (text : List ℕ) → list_all p text ≡ true → prefix_len p text ≡ length text
prefix-whole p [] all = refl
prefix-whole p (b ∷ text) all =
    let parts = and_parts (p b) (list_all p text) all in
    let e : prefix_len p (b ∷ text) ≡ 1 + prefix_len p text = rw (parts.0) refl in
    omega (arith, e, prefix-whole p text parts.1)

-- the value of an escape of each kind
octal-value : (text : List ℕ) → is_octal_escape text ≡ true → escape_value text ≡ if_byte (value_of 8 text)
octal-value text octal = rw octal refl

hexadecimal-value : (text : List ℕ) → is_octal_escape text ≡ false → is_hexadecimal_escape text ≡ true
    → escape_value text ≡ if_byte (value_of 16 (drop 1 text))
hexadecimal-value text no_octal hexadecimal = rw (no_octal, hexadecimal) refl

other-value : (text : List ℕ) → is_octal_escape text ≡ false → is_hexadecimal_escape text ≡ false
    → is_some (escape_value text) ≡ (length text == 1 && is_simple_escape (get_or text 0 0))
other-value text no_octal no_hexadecimal = either (length text == 1 && is_simple_escape (get_or text 0 0))
    (λ h. rw (no_octal, no_hexadecimal, h) refl) (λ h. rw (no_octal, no_hexadecimal, h) refl)

-- an escape is sized where it has a value
abbrev sized : Bool → ℕ → Option ℕ
sized has size = if has then Some size else None

if_byte-sized : (value size : ℕ) → size_if_byte value size ≡ sized (is_some (if_byte value)) size
if_byte-sized value size = either (nat_le value 255) (λ h. rw h refl) (λ h. rw h refl)

and-false : (a b : Bool) → b ≡ false → (a && b) ≡ false
and-false true b h = h
and-false false b h = refl

abbrev IsSized : List ℕ → ℕ → Type 0
IsSized text size = escape_length text ≡ sized (is_some (escape_value (take size text))) size

by_value : (text : List ℕ) (value size : ℕ) → escape_length text ≡ size_if_byte value size
    → escape_value (take size text) ≡ if_byte value → IsSized text size
by_value text value size found known = found ∙ if_byte-sized value size
    ∙ ap (λ o. sized (is_some o) size) (sym known)

octal-escape : (b : ℕ) (text : List ℕ) → is_octal_digit b ≡ true
    → is_octal_escape (take (min 3 (prefix_len is_octal_digit (b ∷ text))) (b ∷ text)) ≡ true
octal-escape b text octal =
    let run = prefix_len is_octal_digit (b ∷ text) in
    let some : run ≡ 1 + prefix_len is_octal_digit text = rw octal refl in
    let within : run ≤ length (b ∷ text) = prefix_len-le-length is_octal_digit (b ∷ text) in
    let size : length (take (min 3 run) (b ∷ text)) ≡ min 3 run = length-take-le (min 3 run) (b ∷ text) (omega arith) in
    and-both (list_all is_octal_digit (take (min 3 run) (b ∷ text)) && nat_le 1 (length (take (min 3 run) (b ∷ text))))
    (nat_le (length (take (min 3 run) (b ∷ text))) 3)
    (and-both (list_all is_octal_digit (take (min 3 run) (b ∷ text))) (nat_le 1 (length (take (min 3 run) (b ∷ text))))
    (all-within_prefix is_octal_digit (min 3 run) (b ∷ text) (omega arith))
    (grind (arith, nat_tests, size, some)))
    (grind (arith, nat_tests, size))

octal-found : (b : ℕ) (text : List ℕ) → is_octal_digit b ≡ true
    → escape_length (b ∷ text) ≡ size_if_byte
    (value_of 8 (take (min 3 (prefix_len is_octal_digit (b ∷ text))) (b ∷ text)))
    (min 3 (prefix_len is_octal_digit (b ∷ text)))
octal-found b text octal = rw (octal-no_simple b octal, octal) refl

octal-size : (b : ℕ) (text : List ℕ) → is_octal_digit b ≡ true
    → escape_size (b ∷ text) ≡ min 3 (prefix_len is_octal_digit (b ∷ text))
octal-size b text octal = rw octal refl

octal-sized : (b : ℕ) (text : List ℕ) → is_octal_digit b ≡ true → IsSized (b ∷ text) (escape_size (b ∷ text))
octal-sized b text octal =
    let size = min 3 (prefix_len is_octal_digit (b ∷ text)) in
    subst (IsSized (b ∷ text)) (sym (octal-size b text octal)) (by_value (b ∷ text)
    (value_of 8 (take size (b ∷ text))) size (octal-found b text octal)
    (octal-value (take size (b ∷ text)) (octal-escape b text octal)))

x-size : (b : ℕ) (text : List ℕ) → (b ∈ "x") ≡ true
    → escape_size (b ∷ text) ≡ suc (prefix_len is_hexadecimal_digit text)
x-size b text x = rw (x-no_octal b x, x) refl

hexadecimal-sized : (b : ℕ) (text : List ℕ) → (b ∈ "x") ≡ true → IsSized (b ∷ text) (escape_size (b ∷ text))
hexadecimal-sized b text x = subst (IsSized (b ∷ text)) (sym (x-size b text x))
    (either (run == 0) none some) where
      run : ℕ
      run = prefix_len is_hexadecimal_digit text

      digits : List ℕ
      digits = take run text

      no_octal : is_octal_escape (b ∷ digits) ≡ false
      no_octal = rw (x-no_octal b x) refl

      all : list_all is_hexadecimal_digit digits ≡ true
      all = all-within_prefix is_hexadecimal_digit run text (omega arith)

      fits : run ≤ length text
      fits = prefix_len-le-length is_hexadecimal_digit text

      none : (run == 0) ≡ true → IsSized (b ∷ text) (suc run)
      none zeros =
          let found : escape_length (b ∷ text) ≡ None = rw (x-no_simple b x, x-no_octal b x, x, zeros) refl in
          let size = length-take-le run text fits in
          let empty : nat_le 1 (length digits) ≡ false = grind (arith, nat_tests, eqb-true run 0 zeros, size) in
          let no_hexadecimal : is_hexadecimal_escape (b ∷ digits) ≡ false = rw (x, all, empty) refl in
          let value = other-value (b ∷ digits) no_octal no_hexadecimal ∙ and-false (length (b ∷ digits) == 1)
          (is_simple_escape b) (x-no_simple b x) in
          found ∙ ap (λ v. sized v (suc run)) (sym value)

      some : (run == 0) ≡ false → IsSized (b ∷ text) (suc run)
      some digit =
          let found : escape_length (b ∷ text) ≡ size_if_byte (value_of 16 digits) (run + 1) = rw
          (x-no_simple b x, x-no_octal b x, x, digit) refl in
          let one_more : run + 1 ≡ suc run = omega arith in
          let size = length-take-le run text fits in
          let filled : nat_le 1 (length digits) ≡ true = grind (arith, nat_tests, digit, size) in
          let hexadecimal : is_hexadecimal_escape (b ∷ digits) ≡ true = rw (x, all, filled) refl in
          by_value (b ∷ text) (value_of 16 digits) (suc run) (found ∙ ap (size_if_byte (value_of 16 digits)) one_more)
          (hexadecimal-value (b ∷ digits) no_octal hexadecimal)

other-sized : (b : ℕ) (text : List ℕ) → is_octal_digit b ≡ false → (b ∈ "x") ≡ false
    → IsSized (b ∷ text) (escape_size (b ∷ text))
other-sized b text no_octal no_x =
    let size : escape_size (b ∷ text) ≡ 1 = rw (no_octal, no_x) refl in
    let found : escape_length (b ∷ text) ≡ sized (is_simple_escape b) 1 = either (is_simple_escape b)
    (λ h. rw h refl) (λ h. rw (h, no_octal, no_x) refl) in
    let octal : is_octal_escape (b ∷ []) ≡ false = rw no_octal refl in
    let hexadecimal : is_hexadecimal_escape (b ∷ []) ≡ false = rw no_x refl in
    subst (IsSized (b ∷ text)) (sym size) (found ∙ ap (λ v. sized v 1) (sym (other-value (b ∷ []) octal hexadecimal)))

escape-sized : (text : List ℕ) → IsSized text (escape_size text)
escape-sized [] = refl
escape-sized (b ∷ text) = either (is_octal_digit b) (octal-sized b text) (λ no_octal. either (b ∈ "x")
    (hexadecimal-sized b text) (other-sized b text no_octal))

after-sized : (v : Bool) (n : ℕ) → after_backslash (sized v n) ≡ sized v (suc n)
after-sized true n = ap Some (omega arith)
after-sized false n = refl

-- a character is sized where it has a value
pub character-sized : (b : ℕ) (text : List ℕ)
    → character_length (b ∷ text) ≡ sized (is_character (take (character_size (b ∷ text)) (b ∷ text)))
    (character_size (b ∷ text))
character-sized b text = either (b == backslash) escaped plain where
  n : ℕ
  n = escape_size text

  plain : (b == backslash) ≡ false → character_length (b ∷ text) ≡ sized (is_character
      (take (character_size (b ∷ text)) (b ∷ text))) (character_size (b ∷ text))
  plain h =
      let size : character_size (b ∷ text) ≡ 1 = rw h refl in
      let found : character_length (b ∷ text) ≡ Some 1 = rw h refl in
      let known : is_character (b ∷ []) ≡ true = rw h refl in
      subst (λ k. character_length (b ∷ text) ≡ sized (is_character (take k (b ∷ text))) k) (sym size)
      (found ∙ ap (λ v. sized v 1) (sym known))

  escaped : (b == backslash) ≡ true → character_length (b ∷ text) ≡ sized (is_character
      (take (character_size (b ∷ text)) (b ∷ text))) (character_size (b ∷ text))
  escaped h =
      let size : character_size (b ∷ text) ≡ suc n = rw h refl in
      let found : character_length (b ∷ text) ≡ after_backslash (escape_length text) = rw h refl in
      let known : is_character (b ∷ take n text) ≡ is_some (escape_value (take n text)) = rw h refl in
      subst (λ k. character_length (b ∷ text) ≡ sized (is_character (take k (b ∷ text))) k) (sym size)
      (found ∙ ap after_backslash (escape-sized text) ∙ after-sized (is_some (escape_value (take n text))) n
      ∙ ap (λ v. sized v (suc n)) (sym known))

-- a whole escape, and a whole character, take all their bytes
escape-whole : (text : List ℕ) → is_some (escape_value text) ≡ true → escape_size text ≡ length text
escape-whole text known = either (is_octal_escape text) (octal-whole text)
    (λ no_octal. either (is_hexadecimal_escape text) (hexadecimal-whole text)
    (λ no_hexadecimal. simple-whole text (sym (other-value text no_octal no_hexadecimal) ∙ known))) where
      octal-whole : (text : List ℕ) → is_octal_escape text ≡ true → escape_size text ≡ length text
      octal-whole [] h = absurd (cc)
      octal-whole (b ∷ text) h =
          let parts = and_parts (list_all is_octal_digit (b ∷ text) && nat_le 1 (length (b ∷ text)))
          (nat_le (length (b ∷ text)) 3) h in
          let all = (and_parts (list_all is_octal_digit (b ∷ text)) (nat_le 1 (length (b ∷ text))) parts.0).0 in
          let octal = (and_parts (is_octal_digit b) (list_all is_octal_digit text) all).0 in
          let run = prefix-whole is_octal_digit (b ∷ text) all in
          let few : length (b ∷ text) ≤ 3 = grind (arith, nat_tests, parts.1) in
          octal-size b text octal ∙ omega (arith, run, few)

      hexadecimal-whole : (text : List ℕ) → is_hexadecimal_escape text ≡ true → escape_size text ≡ length text
      hexadecimal-whole [] h = absurd (cc)
      hexadecimal-whole (b ∷ text) h =
          let parts = and_parts ((b ∈ "x") && list_all is_hexadecimal_digit text) (nat_le 1 (length text)) h in
          let first = and_parts (b ∈ "x") (list_all is_hexadecimal_digit text) parts.0 in
          x-size b text first.0 ∙ ap suc (prefix-whole is_hexadecimal_digit text first.1)

      simple-whole : (text : List ℕ) → (length text == 1 && is_simple_escape (get_or text 0 0)) ≡ true
          → escape_size text ≡ length text
      simple-whole [] h = absurd (cc)
      simple-whole (b ∷ text) h =
          let parts = and_parts (length (b ∷ text) == 1) (is_simple_escape b) h in
          let size : escape_size (b ∷ text) ≡ 1 = rw (simple-no_octal b parts.1, simple-no_x b parts.1) refl in
          size ∙ sym (eqb-true (length (b ∷ text)) 1 parts.0)

character-whole : (b : ℕ) (text : List ℕ) → is_character (b ∷ text) ≡ true
    → character_size (b ∷ text) ≡ length (b ∷ text)
character-whole b text known = either (b == backslash)
    (λ h. rw h (ap suc (escape-whole text (rw h at known))))
    (λ h. rw h (plain h)) where
      plain : (b == backslash) ≡ false → 1 ≡ length (b ∷ text)
      plain h = either (length text == 0)
          (λ e. let zeros = eqb-true (length text) 0 e in omega (arith, zeros))
          (λ e. let wrong : false ≡ true = rw (h, e) at known in absurd (cc))

-- what the code tests is that a text is one character
pub one_character : (text : List ℕ) → is_one_character text ≡ is_character text
one_character [] = refl
one_character (b ∷ text) = ap (λ o. unwrap_or o 0 == length (b ∷ text)) (character-sized b text)
    ∙ either (is_character (b ∷ text)) whole part where
      size : ℕ
      size = character_size (b ∷ text)

      found : Bool → Bool
      found v = unwrap_or (sized v size) 0 == length (b ∷ text)

      all : size ≡ length (b ∷ text) → take size (b ∷ text) ≡ b ∷ text
      all h = take_all size (b ∷ text) (omega (arith, h))

      whole : is_character (b ∷ text) ≡ true → found (is_character (take size (b ∷ text))) ≡ is_character (b ∷ text)
      whole h =
          let same = character-whole b text h in
          ap (λ t. found (is_character t)) (all same) ∙ ap found h ∙ (grind (arith, nat_tests, same)) ∙ sym h

      part : is_character (b ∷ text) ≡ false → found (is_character (take size (b ∷ text))) ≡ is_character (b ∷ text)
      part h = either (is_character (take size (b ∷ text))) longer (λ k. ap found k ∙ empty ∙ sym h) where
        empty : (0 == length (b ∷ text)) ≡ false
        empty = grind (arith, nat_tests)

        longer : is_character (take size (b ∷ text)) ≡ true
            → found (is_character (take size (b ∷ text))) ≡ is_character (b ∷ text)
        longer k = either (size == length (b ∷ text))
            (λ e. let wrong : true ≡ false = sym k ∙ ap is_character (all (eqb-true size (length (b ∷ text)) e)) ∙ h in
            absurd (cc)) (λ e. ap found k ∙ e ∙ sym h)

-- a text cut into characters
size-some : (text : List ℕ) → 0 < character_size text
size-some text = either (get_or text 0 0 == backslash)
    (λ h. let e : character_size text ≡ suc (escape_size (drop 1 text)) = rw h refl in omega (arith, e))
    (λ h. let e : character_size text ≡ 1 = rw h refl in omega (arith, e))

none-left : (n : ℕ) → first_characters n [] ≡ []
none-left zero = refl
none-left (suc n) = refl

enough : (n m : ℕ) (text : List ℕ) → length text ≤ n → length text ≤ m
    → first_characters n text ≡ first_characters m text
enough n m [] fits fit = none-left n ∙ sym (none-left m)
enough zero m (b ∷ text) fits fit = absurd (omega arith)
enough (suc n) zero (b ∷ text) fits fit = absurd (omega arith)
enough (suc n) (suc m) (b ∷ text) fits fit =
    let size = character_size (b ∷ text) in
    let rest = length-drop size (b ∷ text) in
    let some = size-some (b ∷ text) in
    ap (λ cs. take size (b ∷ text) ∷ cs) (enough n m (drop size (b ∷ text)) (omega (arith, rest, some))
    (omega (arith, rest, some)))

cut : (b : ℕ) (text : List ℕ) → characters (b ∷ text) ≡ take (character_size (b ∷ text)) (b ∷ text)
    ∷ characters (drop (character_size (b ∷ text)) (b ∷ text))
cut b text =
    let size = character_size (b ∷ text) in
    let rest = drop size (b ∷ text) in
    ap (λ cs. take size (b ∷ text) ∷ cs) (enough (length text) (length rest) rest
    (omega (arith, length-drop size (b ∷ text), size-some (b ∷ text))) (omega arith))

more-cons : (b n : ℕ) (text : List ℕ) → character_length (b ∷ text) ≡ Some n
    → are_characters (drop n (b ∷ text)) ≡ are_characters (b ∷ text)
more-cons b n text found =
    let size = character_size (b ∷ text) in
    let parts = cond_some (is_character (take size (b ∷ text))) size n (sym (character-sized b text) ∙ found) in
    let first : list_all is_character (take size (b ∷ text) ∷ characters (drop size (b ∷ text)))
    ≡ are_characters (drop size (b ∷ text)) = ap (λ v. v && are_characters (drop size (b ∷ text))) parts.0 in
    ap (λ k. are_characters (drop k (b ∷ text))) (sym parts.1) ∙ sym first
    ∙ ap (list_all is_character) (sym (cut b text))

stops-cons : (b : ℕ) (text : List ℕ) → character_length (b ∷ text) ≡ None → are_characters (b ∷ text) ≡ false
stops-cons b text found = ap (list_all is_character) (cut b text)
    ∙ ap (λ v. v && are_characters (drop size (b ∷ text))) (unsized first (sym (character-sized b text) ∙ found)) where
      size : ℕ
      size = character_size (b ∷ text)

      first : Bool
      first = is_character (take size (b ∷ text))

      unsized : (v : Bool) → sized v size ≡ None → v ≡ false
      unsized true h = absurd (none-some size (sym h))
      unsized false h = refl

-- in the midst of a text
pub characters-more : (text rest : List ℕ) (at n : ℕ) → rest ≡ drop at text → character_length rest ≡ Some n
    → n ≤ length rest → 0 < n → are_characters (drop (at + n) text) ≡ are_characters (drop at text)
characters-more text [] at n same found fits some = absurd (omega arith)
characters-more text (b ∷ rest) at n same found fits some =
    ap are_characters (sym (drop-drop n at text) ∙ ap (drop n) (sym same)) ∙ more-cons b n rest found
    ∙ ap are_characters same

pub characters-stop : (text rest : List ℕ) (at : ℕ) → rest ≡ drop at text → 0 < length rest
    → character_length rest ≡ None → are_characters (drop at text) ≡ false
characters-stop text [] at same some none = absurd (omega arith)
characters-stop text (b ∷ rest) at same some none = ap are_characters (sym same) ∙ stops-cons b rest none
