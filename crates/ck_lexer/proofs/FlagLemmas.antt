-- Flags, read from the first byte on, are flags, and all flags are read.
use Rattle.std.proofs.Common.{◌≡◌, ℕ, ◌<◌, true, false, List, [], ◌∷◌, ◌++◌, length, ap, arith, refl, ⊎_elim, subst}
use Rattle.std.proofs.Common.{sym}
use Rattle.std.specs.Prelude.{◌&&◌}
use Rattle.std.specs.List.{list_all}
use Rattle.std.proofs.lemmas.Bool.{and_parts}
use Rattle.ck_lexer.specs.Bytes.{is_blank}
use Rattle.ck_lexer.specs.Markers.{AreFlags, no_flag, one_more, is_flag}
use Rattle.ck_lexer.specs.Scanning.{are_flags, flags_from}
use Rattle.ck_lexer.proofs.Tests.{and-both, or-left, or-right, or-either}

flags-after_blanks : (blanks : List ℕ) (b : ℕ) (flags : List ℕ) → list_all is_blank blanks ≡ true
    → is_flag b ≡ true → flags_from false flags ≡ true → flags_from true (blanks ++ b ∷ flags) ≡ true
flags-after_blanks [] b flags all flag rest =
    or-right (is_blank b && flags_from true flags) (is_flag b && flags_from false flags)
    (and-both (is_flag b) (flags_from false flags) flag rest)
flags-after_blanks (c ∷ blanks) b flags all flag rest =
    let parts = and_parts (is_blank c) (list_all is_blank blanks) all in
    or-left (is_blank c && flags_from true (blanks ++ b ∷ flags)) (is_flag c && flags_from false (blanks ++ b ∷ flags))
    (and-both (is_blank c) (flags_from true (blanks ++ b ∷ flags)) parts.0
    (flags-after_blanks blanks b flags parts.1 flag rest))

one_more-complete : (blanks : List ℕ) (b : ℕ) (flags : List ℕ) → 0 < length blanks → list_all is_blank blanks ≡ true
    → is_flag b ≡ true → are_flags flags ≡ true → are_flags (blanks ++ b ∷ flags) ≡ true
one_more-complete [] b flags some all flag rest = absurd (omega arith)
one_more-complete (c ∷ blanks) b flags some all flag rest =
    let parts = and_parts (is_blank c) (list_all is_blank blanks) all in
    and-both (is_blank c) (flags_from true (blanks ++ b ∷ flags)) parts.0
    (flags-after_blanks blanks b flags parts.1 flag rest)

pub are_flags-complete : (text : List ℕ) → AreFlags text → are_flags text ≡ true
are_flags-complete _ no_flag = refl
are_flags-complete _ (one_more blanks b flags some all flag rest) = one_more-complete blanks b flags some all flag
    (are_flags-complete flags rest)

-- what comes after blanks: more of them, a flag, and flags
record AfterBlanks (text : List ℕ) : Type 0 where
  blanks : List ℕ
  first : ℕ
  flags : List ℕ
  is : text ≡ blanks ++ first ∷ flags
  all : list_all is_blank blanks ≡ true
  flag : is_flag first ≡ true
  rest : AreFlags flags

a_blank : (b : ℕ) (text : List ℕ) → is_blank b ≡ true → AfterBlanks text → AfterBlanks (b ∷ text)
a_blank b text blank after = record {
  blanks = b ∷ after.blanks;
  first = after.first;
  flags = after.flags;
  is = ap (λ t. b ∷ t) after.is;
  all = and-both (is_blank b) (list_all is_blank after.blanks) blank after.all;
  flag = after.flag;
  rest = after.rest;
}

flags_of : (b : ℕ) (text : List ℕ) → is_blank b ≡ true → AfterBlanks text → AreFlags (b ∷ text)
unfolding a_blank
flags_of b text blank after =
    let more = a_blank b text blank after in
    subst AreFlags (sym more.is) (one_more (b ∷ after.blanks) after.first after.flags (omega arith) more.all after.flag
    after.rest)

mutual
  pub are_flags-sound : (text : List ℕ) → are_flags text ≡ true → AreFlags text
  are_flags-sound [] h = no_flag
  are_flags-sound (b ∷ text) h =
      let parts = and_parts (is_blank b) (flags_from true text) h in
      flags_of b text parts.0 (after_blanks-sound text parts.1)

  after_blanks-sound : (text : List ℕ) → flags_from true text ≡ true → AfterBlanks text
  after_blanks-sound [] h = absurd (cc)
  after_blanks-sound (b ∷ text) h = ⊎_elim
      (λ (x : (is_blank b && flags_from true text) ≡ true).
      let parts = and_parts (is_blank b) (flags_from true text) x in
      a_blank b text parts.0 (after_blanks-sound text parts.1))
      (λ (x : (is_flag b && flags_from false text) ≡ true).
      let parts = and_parts (is_flag b) (flags_from false text) x in
      record {
        blanks = [];
        first = b;
        flags = text;
        is = refl;
        all = refl;
        flag = parts.0;
        rest = are_flags-sound text parts.1;
      })
      (or-either (is_blank b && flags_from true text) (is_flag b && flags_from false text) h)
