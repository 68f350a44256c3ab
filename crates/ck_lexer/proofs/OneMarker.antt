-- What a line marker gives is what `marker_of` reads, so no line gives two.
use Rattle.std.proofs.Common.{◌≡◌, ℕ, suc, ◌+◌, ◌-◌, ◌<◌, ◌≤◌, Bool, true, false, ◌&&◌, ◌==◌, nat_le, List, [], ◌∷◌}
use Rattle.std.proofs.Common.{◌++◌, length, take, drop, take-take, Option, Some, None, refl, sym, ap, ◌∙◌, subst, arith}
use Rattle.std.proofs.Common.{append_assoc, take-append-drop, length-append}
use Rattle.std.specs.List.{list_all, prefix_len}
use Rattle.std.specs.Prelude.{codes}
use Rattle.std.proofs.lemmas.Bool.{and_parts, le-leb, leb-true, eqb-true}
use Rattle.std.proofs.lemmas.Bool.Decides.{nat_tests}
use Rattle.std.proofs.lemmas.List.{take_at, drop_at, length-take-le}
use Rattle.std.proofs.lemmas.List.Folds.{length-prefix_len}
use Rattle.std.proofs.lemmas.Option.{cond_some, none-some, some_pair_parts}
use Rattle.ck_base.specs.Characters.{is_digit}
use Rattle.ck_lexer.specs.Bytes.{double_quote, is_blank}
use Rattle.ck_base.specs.IntegerConstants.{value_of}
use Rattle.ck_lexer.specs.Markers.{IsMarker, hash}
use Rattle.ck_lexer.specs.Preprocessing.{is_closed}
use Rattle.ck_lexer.proofs.FlagLemmas.{are_flags-complete, are_flags-sound}
use Rattle.ck_lexer.specs.Scanning.{after_blanks, are_flags, closing, marker_digits, marker_end, marker_name}
use Rattle.ck_lexer.specs.Scanning.{marker_number, marker_of}
use Rattle.ck_lexer.proofs.LiteralLemmas.{closing-is_closed, either, is_closed-closing, is_closed-last}
use Rattle.ck_lexer.proofs.Values.{value-small}

-- where all of one list pass and the next does not, the prefix is that list
pub prefix_len_at : (p : ℕ → Bool) (xs ys : List ℕ) → list_all p xs ≡ true → prefix_len p ys ≡ 0
    → prefix_len p (xs ++ ys) ≡ length xs
prefix_len_at p [] ys all none = none
prefix_len_at p (x ∷ xs) ys all none =
    let parts = and_parts (p x) (list_all p xs) all in
    let rest : prefix_len p (xs ++ ys) ≡ length xs = prefix_len_at p xs ys parts.1 none in
    let one : 1 + length xs ≡ suc (length xs) = omega arith in
    rw (parts.0, rest) one

prefix_step : (p : ℕ → Bool) (x : ℕ) (xs : List ℕ) → list_all p (take (prefix_len p xs) xs) ≡ true
    → list_all p (take (prefix_len p (x ∷ xs)) (x ∷ xs)) ≡ true
prefix_step p x xs rest = either (p x) yes no where
  one : 1 + prefix_len p xs ≡ suc (prefix_len p xs)
  one = omega arith

  yes : p x ≡ true → list_all p (take (prefix_len p (x ∷ xs)) (x ∷ xs)) ≡ true
  yes e = rw (e, one, e) rest

  no : p x ≡ false → list_all p (take (prefix_len p (x ∷ xs)) (x ∷ xs)) ≡ true
  no e = rw e refl

pub prefix_all : (p : ℕ → Bool) (xs : List ℕ) → list_all p (take (prefix_len p xs) xs) ≡ true
prefix_all p [] = refl
prefix_all p (x ∷ xs) = prefix_step p x xs (prefix_all p xs)

digit_is_no_blank : (b : ℕ) → is_digit b ≡ true → is_blank b ≡ false
digit_is_no_blank b digit = grind (arith, nat_tests)

blank_is_no_digit : (b : ℕ) → is_blank b ≡ true → is_digit b ≡ false
blank_is_no_digit b blank = grind (arith, nat_tests)

no_blanks_before : (digits more : List ℕ) → list_all is_digit digits ≡ true → 0 < length digits
    → prefix_len is_blank (digits ++ more) ≡ 0
no_blanks_before [] more all some = absurd (omega arith)
no_blanks_before (b ∷ digits) more all some =
    let other : is_blank b ≡ false = digit_is_no_blank b (and_parts (is_digit b) (list_all is_digit digits) all).0 in
    rw other refl

no_digits_before : (between more : List ℕ) → list_all is_blank between ≡ true
    → prefix_len is_digit (between ++ (double_quote ∷ more)) ≡ 0
no_digits_before [] more all = refl
no_digits_before (b ∷ between) more all =
    let other : is_digit b ≡ false = blank_is_no_digit b (and_parts (is_blank b) (list_all is_blank between) all).0 in
    rw other refl

after_blanks_at : (blanks more : List ℕ) → list_all is_blank blanks ≡ true → prefix_len is_blank more ≡ 0
    → after_blanks (blanks ++ more) ≡ more
after_blanks_at blanks more all none = drop_at blanks more (prefix_len is_blank (blanks ++ more))
    (sym (prefix_len_at is_blank blanks more all none))

-- step by step from the end
abbrev Read : Option (ℕ × List ℕ) → ℕ → List ℕ → Type 0
Read o number name = o ≡ Some (number, name)

end_complete : (number n : ℕ) (text name flags : List ℕ) (o : Option ℕ) → o ≡ Some n → take (n - 1) text ≡ name
    → drop n text ≡ flags → are_flags flags ≡ true → Read (marker_end number text o) number name
end_complete number n text name flags o e front after flagged = rw (e, front, after, flagged) refl

name_complete : (number : ℕ) (name flags : List ℕ) → is_closed double_quote (name ++ double_quote ∷ []) ≡ true
    → are_flags flags ≡ true → Read (marker_name number (double_quote ∷ (name ++ (double_quote ∷ flags)))) number name
name_complete number name flags is_quoted flagged =
    let n : ℕ = length (name ++ double_quote ∷ []) in
    let size : n ≡ length name + 1 = length-append name (double_quote ∷ []) in
    let whole : (name ++ double_quote ∷ []) ++ flags ≡ name ++ (double_quote ∷ flags) = append_assoc name
    (double_quote ∷ []) flags in
    let text : List ℕ = name ++ (double_quote ∷ flags) in
    end_complete number n text name flags (closing double_quote text)
    (subst (λ t. closing double_quote t ≡ Some n) whole (is_closed-closing double_quote
    (name ++ double_quote ∷ []) flags refl is_quoted))
    (take_at name (double_quote ∷ flags) (n - 1) (omega arith))
    (subst (λ t. drop n t ≡ flags) whole (drop_at (name ++ double_quote ∷ []) flags n refl))
    flagged

digits_complete : (n number : ℕ) (text digits rest last name : List ℕ) → 1 ≤ n → n ≤ 9 → take n text ≡ digits
    → drop n text ≡ rest → after_blanks rest ≡ last → Read (marker_name (value_of 10 digits) last) number name
    → Read (marker_digits n text) number name
digits_complete n number text digits rest last name some few front after blanks named =
    let low : nat_le 1 n ≡ true = le-leb 1 n some in
    let high : nat_le n 9 ≡ true = le-leb n 9 few in
    rw (low, high, front, after, blanks) named

number_complete : (digits between name flags : List ℕ) → list_all is_digit digits ≡ true → 0 < length digits
    → length digits ≤ 9 → list_all is_blank between ≡ true → is_closed double_quote (name ++ double_quote ∷ []) ≡ true
    → are_flags flags ≡ true → Read (marker_number (digits ++
    (between ++ (double_quote ∷ (name ++ (double_quote ∷ flags)))))) (value_of 10 digits) name
number_complete digits between name flags all some few blanks is_quoted flagged =
    let last : List ℕ = double_quote ∷ (name ++ (double_quote ∷ flags)) in
    let rest : List ℕ = between ++ last in
    let size : prefix_len is_digit (digits ++ rest) ≡ length digits = prefix_len_at is_digit digits rest all
    (no_digits_before between (name ++ (double_quote ∷ flags)) blanks) in
    digits_complete (prefix_len is_digit (digits ++ rest)) (value_of 10 digits) (digits ++ rest) digits rest last name
    (omega arith)
    (omega arith)
    (take_at digits rest (prefix_len is_digit (digits ++ rest)) (sym size))
    (drop_at digits rest (prefix_len is_digit (digits ++ rest)) (sym size))
    (after_blanks_at between last blanks refl)
    (name_complete (value_of 10 digits) name flags is_quoted flagged)

hash_complete : (before rest name : List ℕ) (number : ℕ) → list_all is_blank before ≡ true
    → prefix_len is_blank rest ≡ 0 → Read (marker_number rest) number name
    → Read (marker_of (hash ∷ (before ++ rest))) number name
hash_complete before rest name number blanks none read = subst (λ t. Read (marker_number t) number name)
    (sym (after_blanks_at before rest blanks none)) read

pub marker_of-complete : (line : List ℕ) (number : ℕ) (name : List ℕ) → IsMarker line number name
    → marker_of line ≡ Some (number, name)
marker_of-complete line number name m =
    let rest : List ℕ = m.digits ++ (m.between ++ (double_quote ∷ (name ++ (double_quote ∷ m.flags)))) in
    let read : Read (marker_of (hash ∷ (m.before ++ rest)))
    (value_of 10 m.digits) name = hash_complete m.before rest name (value_of 10 m.digits)
    m.blanks_before
    (no_blanks_before m.digits (m.between ++ (double_quote ∷ (name ++
    (double_quote ∷ m.flags)))) m.all_digits m.some_digits)
    (number_complete m.digits m.between name m.flags m.all_digits m.some_digits m.few_digits m.blanks_between m.quoted
    (are_flags-complete m.flags m.flagged)) in
    ap marker_of m.text ∙ (read ∙ ap (λ v. Some (v, name)) (sym m.value))

-- a name in its quotes, and flags
record IsNamed (text name : List ℕ) : Type 0 where
  flags : List ℕ
  is : text ≡ double_quote ∷ (name ++ (double_quote ∷ flags))
  quoted : is_closed double_quote (name ++ double_quote ∷ []) ≡ true
  flagged : are_flags flags ≡ true

prefix_of_closed : (n : ℕ) (text inner : List ℕ) (mark : ℕ) → n ≤ length text → take n text ≡ inner ++ mark ∷ []
    → take (n - 1) text ≡ inner
prefix_of_closed n text inner mark within e =
    let size : length (inner ++ mark ∷ []) ≡ length inner + 1 = length-append inner (mark ∷ []) in
    let same : length (take n text) ≡ length (inner ++ mark ∷ []) = ap length e in
    let all : length (take n text) ≡ n = length-take-le n text within in
    let short : length inner ≡ n - 1 = omega arith in
    sym (take-take (n - 1) n text (omega arith)) ∙ (ap (λ t. take (n - 1) t) e
    ∙ take_at inner (mark ∷ []) (n - 1) short)

closed_sound : (n : ℕ) (text name : List ℕ) → closing double_quote text ≡ Some n → take (n - 1) text ≡ name
    → are_flags (drop n text) ≡ true → IsNamed (double_quote ∷ text) name
closed_sound n text name e front flagged =
    let here = closing-is_closed double_quote text n e in
    let last = is_closed-last double_quote (take n text) here.0 in
    let same : last.0 ≡ name = sym (prefix_of_closed n text last.0 double_quote here.1 last.1) ∙ front in
    let taken : take n text ≡ name ++ double_quote ∷ [] = last.1 ∙ ap (λ t. t ++ double_quote ∷ []) same in
    record {
      flags = drop n text;
      is = ap (λ t. double_quote ∷ t) (sym (take-append-drop n text)
          ∙ (ap (λ t. t ++ drop n text) taken ∙ append_assoc name (double_quote ∷ []) (drop n text)));
      quoted = subst (λ t. is_closed double_quote t ≡ true) taken here.0;
      flagged = flagged;
    }

end_sound : (value number : ℕ) (text name : List ℕ) (o : Option ℕ) → closing double_quote text ≡ o
    → Read (marker_end value text o) number name → (value ≡ number) × IsNamed (double_quote ∷ text) name
end_sound value number text name None e read = absurd (none-some (number, name) read)
end_sound value number text name (Some n) e read =
    let parts = cond_some (are_flags (drop n text)) (value, take (n - 1) text) (number, name) read in
    (ap (λ r. r.0) parts.1, closed_sound n text name e (ap (λ r. r.1) parts.1) parts.0)

name_sound : (value number : ℕ) (text name : List ℕ) → Read (marker_name value text) number name
    → (value ≡ number) × IsNamed text name
name_sound value number [] name read = absurd (none-some (number, name) read)
name_sound value number (b ∷ text) name read = either (b == double_quote) yes no where
  yes : (b == double_quote) ≡ true → (value ≡ number) × IsNamed (b ∷ text) name
  yes e =
      let rest = end_sound value number text name (closing double_quote text) refl (rw e at read) in
      (rest.0, subst (λ x. IsNamed (x ∷ text) name) (sym (eqb-true b double_quote e)) rest.1)

  no : (b == double_quote) ≡ false → (value ≡ number) × IsNamed (b ∷ text) name
  no e = absurd (none-some (number, name) (rw e at read))

-- 1 to 9 digits, blanks, a name and flags
record IsNumbered (text : List ℕ) (number : ℕ) (name : List ℕ) : Type 0 where
  digits : List ℕ
  between : List ℕ
  last : List ℕ
  is : text ≡ digits ++ (between ++ last)
  all : list_all is_digit digits ≡ true
  some : 0 < length digits
  few : length digits ≤ 9
  value : number ≡ value_of 10 digits
  blanks : list_all is_blank between ≡ true
  named : IsNamed last name

numbered : (n number : ℕ) (text name : List ℕ) → list_all is_digit (take n text) ≡ true → length (take n text) ≡ n
    → 1 ≤ n → n ≤ 9 → (value_of 10 (take n text) ≡ number) × IsNamed (after_blanks (drop n text)) name
    → IsNumbered text number name
numbered n number text name all size some few read =
    let rest : List ℕ = drop n text in
    record {
      digits = take n text;
      between = take (prefix_len is_blank rest) rest;
      last = after_blanks rest;
      is = sym (take-append-drop n text) ∙ ap (λ t. take n text ++ t)
          (sym (take-append-drop (prefix_len is_blank rest) rest));
      all = all;
      some = omega arith;
      few = omega arith;
      value = sym read.0;
      blanks = prefix_all is_blank rest;
      named = read.1;
    }

number_sound : (number : ℕ) (text name : List ℕ) → Read (marker_number text) number name → IsNumbered text number name
number_sound number text name read = either (nat_le 1 (prefix_len is_digit text) && nat_le
    (prefix_len is_digit text) 9) yes no where
      yes : (nat_le 1 (prefix_len is_digit text) && nat_le (prefix_len is_digit text) 9) ≡ true
          → IsNumbered text number name
      yes e =
          let n : ℕ = prefix_len is_digit text in
          let parts = and_parts (nat_le 1 n) (nat_le n 9) e in
          numbered n number text name (prefix_all is_digit text) (length-prefix_len is_digit text)
          (leb-true 1 n parts.0)
          (leb-true n 9 parts.1)
          (name_sound (value_of 10 (take n text)) number (after_blanks (drop n text)) name (rw e at read))

      no : (nat_le 1 (prefix_len is_digit text) && nat_le (prefix_len is_digit text) 9) ≡ false
          → IsNumbered text number name
      no e = absurd (none-some (number, name) (rw e at read))

marked : (text : List ℕ) (number : ℕ) (name before : List ℕ) → list_all is_blank before ≡ true
    → IsNumbered text number name → IsMarker (hash ∷ (before ++ text)) number name
marked text number name before blanks m = record {
  before = before;
  digits = m.digits;
  between = m.between;
  flags = m.named.flags;
  text = ap (λ t. hash ∷ (before ++ t)) (m.is ∙ ap (λ t. m.digits ++ (m.between ++ t)) m.named.is);
  blanks_before = blanks;
  all_digits = m.all;
  some_digits = m.some;
  few_digits = m.few;
  value = m.value;
  blanks_between = m.blanks;
  quoted = m.named.quoted;
  flagged = are_flags-sound m.named.flags m.named.flagged;
}

hash_sound : (text : List ℕ) (number : ℕ) (name : List ℕ) → Read (marker_number (after_blanks text)) number name
    → IsMarker (hash ∷ text) number name
hash_sound text number name read =
    subst (λ t. IsMarker (hash ∷ t) number name) (take-append-drop (prefix_len is_blank text) text)
    (marked (after_blanks text) number name (take (prefix_len is_blank text) text) (prefix_all is_blank text)
    (number_sound number (after_blanks text) name read))

pub marker_of-sound : (line : List ℕ) (number : ℕ) (name : List ℕ) → marker_of line ≡ Some (number, name)
    → IsMarker line number name
marker_of-sound [] number name read = absurd (none-some (number, name) read)
marker_of-sound (b ∷ text) number name read = either (b == hash) yes no where
  yes : (b == hash) ≡ true → IsMarker (b ∷ text) number name
  yes e = subst (λ x. IsMarker (x ∷ text) number name) (sym (eqb-true b hash e))
      (hash_sound text number name (rw e at read))

  no : (b == hash) ≡ false → IsMarker (b ∷ text) number name
  no e = absurd (none-some (number, name) (rw e at read))

pub one_marker : (line : List ℕ) (m n : ℕ) (a b : List ℕ) → IsMarker line m a → IsMarker line n b → (m ≡ n) × (a ≡ b)
one_marker line m n a b p q = some_pair_parts m n a b (sym (marker_of-complete line m a p)
    ∙ marker_of-complete line n b q)

-- a marker's number has 9 digits at most
pub marker_of-small : (line : List ℕ) (number : ℕ) (name : List ℕ) → marker_of line ≡ Some (number, name)
    → number < 1000000000
marker_of-small line number name read =
    let m = marker_of-sound line number name read in
    let small : value_of 10 m.digits < 1000000000 = value-small m.digits m.all_digits m.few_digits in
    omega (arith, m.value)

-- Worked lines.
flagged_marker : marker_of (codes "#  12 \"a.c\" 1  3") ≡ Some (12, codes "a.c")
flagged_marker = refl

narrow_marker : marker_of (codes "#7\"a\\\"b\"") ≡ Some (7, codes "a\\\"b")
narrow_marker = refl

no_name : marker_of (codes "# 12 a.c") ≡ None
no_name = refl

ten_digits : marker_of (codes "# 1234567890 \"a.c\"") ≡ None
ten_digits = refl
