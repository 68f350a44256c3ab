-- A word that is no fixed word of the subset adds nothing to a tally.
use Rattle.std.proofs.Common.{◌≡◌, ℕ, Bool, true, false, ◌||◌, List, [], ◌∷◌, map, refl, ap}
use Rattle.std.specs.Prelude.{codes}
use Rattle.std.specs.Str.{bytes_eq}
use Rattle.std.proofs.lemmas.Slice.Eq.{bytes_eq-Decides}
use Rattle.ck_base.specs.declared.tokens.Token.{Token}
use Rattle.ck_grammar.specs.FixedWords.{spelling}
use Rattle.ck_grammar.specs.Words.{Word, Ordinary, Typedef, Number, String, Fixed, is_one_of, sort_by}
use Rattle.ck_grammar.specs.declared.classes.Sort.TheVariants.{Other}
use Rattle.ck_grammar.specs.declared.words.FixedWord.{FixedWord}
use Rattle.ck_grammar.specs.declared.words.FixedWord.TheVariants as word
use Rattle.ck_tallies.specs.Tallies.{with_word, with_text, class_with}
use Rattle.ck_tallies.specs.declared.tallies.Tally.{Tally}

or_none : (a b : Bool) → (a ≡ true → ⊥) → b ≡ false → (a || b) ≡ false
or_none true b h e = absurd (h refl)
or_none false b h e = e

-- it is none of these words
none : (text : List ℕ) → ((found : FixedWord) → text ≡ spelling found → ⊥) → (found : List FixedWord)
    → is_one_of (map spelling found) text ≡ false
none text h [] = refl
none text h (found ∷ more) =
    or_none (bytes_eq text (spelling found)) (is_one_of (map spelling more) text)
    (λ e. h found ((bytes_eq-Decides text (spelling found)).0 e)) (none text h more)

is_not : (text : List ℕ) → ((found : FixedWord) → text ≡ spelling found → ⊥) → (found : FixedWord)
    → bytes_eq text (spelling found) ≡ false
is_not text h found =
    or_stays (bytes_eq text (spelling found)) (λ e. h found ((bytes_eq-Decides text (spelling found)).0 e)) where
      or_stays : (a : Bool) → (a ≡ true → ⊥) → a ≡ false
      or_stays true k = absurd (k refl)
      or_stays false k = refl

sort_other : (text : List ℕ) → ((found : FixedWord) → text ≡ spelling found → ⊥) → sort_by text ≡ Other
sort_other text h =
    rw (
      none text h (word.Typedef ∷ word.Extern ∷ word.Static ∷ word.Auto ∷ word.Register ∷ []),
      none text h (word.Const ∷ word.Volatile ∷ word.Restrict ∷ []),
      none text h (word.Inline ∷ []),
      none text h (
          word.Void ∷ word.Char ∷ word.Short ∷ word.Int ∷ word.Long ∷ word.Signed ∷ word.Unsigned ∷ word.Bool ∷ []
          ),
      none text h (word.Struct ∷ []),
      none text h (word.Enum ∷ []),
      none text h (word.Star ∷ []),
      none text h (word.LeftParen ∷ []),
      none text h (word.LeftBracket ∷ []),
      none text h (word.LeftBrace ∷ []),
      none text h (word.RightParen ∷ []),
    ) refl

or_false : (b : Bool) → (b || false) ≡ b
or_false true = refl
or_false false = refl

adds_nothing : (text : List ℕ) (t : Tally) → ((found : FixedWord) → text ≡ spelling found → ⊥) → with_text text t ≡ t
adds_nothing text t h =
    rw (
      sort_other text h,
      or_false t.typed,
      or_false t.inline,
      is_not text h word.Void,
      is_not text h word.Char,
      is_not text h word.Int,
      is_not text h word.Bool,
      is_not text h word.Short,
      is_not text h word.Long,
      is_not text h word.Signed,
      is_not text h word.Unsigned,
      is_not text h word.Register,
      is_not text h word.Typedef,
      none text h (word.Extern ∷ word.Static ∷ word.Auto ∷ []),
    ) refl

pub unknown_adds : (word : Word) (t : Tally) → ((found : FixedWord) → word ≡ Fixed (spelling found) → ⊥)
    → with_word word t ≡ t
unknown_adds (Fixed text) t h = adds_nothing text t (λ found e. h found (ap Fixed e))
unknown_adds Ordinary t h = refl
unknown_adds Typedef t h = refl
unknown_adds Number t h = refl
unknown_adds String t h = refl
