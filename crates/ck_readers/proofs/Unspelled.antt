-- What a text of no fixed word is to each part of the grammar: nothing.
use Rattle.std.proofs.Common.{◌≡◌, ℕ, Bool, true, false, ◌||◌, List, [], ◌∷◌, map, refl}
use Rattle.std.specs.Str.{bytes_eq}
use Rattle.std.proofs.lemmas.Slice.Eq.{bytes_eq-Decides}
use Rattle.ck_grammar.specs.FixedWords.{spelling}
use Rattle.ck_grammar.specs.Phrases.{phrase_by}
use Rattle.ck_grammar.specs.Words.{is_one_of, sort_by, lead_by, follow_by}
use Rattle.ck_grammar.specs.declared.classes.Follow.TheVariants as follows
use Rattle.ck_grammar.specs.declared.classes.Lead.TheVariants as leads
use Rattle.ck_grammar.specs.declared.classes.Phrase.TheVariants as phrases
use Rattle.ck_grammar.specs.declared.classes.Sort.TheVariants as sorts
use Rattle.ck_grammar.specs.declared.words.FixedWord.{FixedWord}
use Rattle.ck_grammar.specs.declared.words.FixedWord.TheVariants as word
use Rattle.ck_readers.specs.Looks.{IsUnspelled}

or_none : (a b : Bool) → (a ≡ true → ⊥) → b ≡ false → (a || b) ≡ false
or_none true b h e = absurd (h refl)
or_none false b h e = e

-- it is none of the texts of any words
none : (text : List ℕ) → IsUnspelled text → (found : List FixedWord) → is_one_of (map spelling found) text ≡ false
none text h [] = refl
none text h (found ∷ more) =
    or_none (bytes_eq text (spelling found)) (is_one_of (map spelling more) text)
    (λ e. h found ((bytes_eq-Decides text (spelling found)).0 e)) (none text h more)

pub sort_unspelled : (text : List ℕ) → IsUnspelled text → sort_by text ≡ sorts.Other
sort_unspelled text h =
    rw (
      none text h (word.Typedef ∷ word.Extern ∷ word.Static ∷ word.Auto ∷ word.Register ∷ []),
      none text h (word.Const ∷ word.Volatile ∷ word.Restrict ∷ []),
      none text h (word.Inline ∷ []),
      none text h (
          word.Void ∷ word.Char ∷ word.Short ∷ word.Int ∷ word.Long ∷ word.Signed ∷ word.Unsigned ∷ word.Bool ∷ []
          ),
      none text h (word.Struct ∷ []),
      none text h (word.Enum ∷ []),
      none text h (word.Star ∷ []),
      none text h (word.LeftParen ∷ []),
      none text h (word.LeftBracket ∷ []),
      none text h (word.LeftBrace ∷ []),
      none text h (word.RightParen ∷ []),
    ) refl

pub lead_unspelled : (text : List ℕ) → IsUnspelled text → lead_by text ≡ leads.Nothing
lead_unspelled text h =
    rw (
      sort_unspelled text h,
      none text h (word.LeftParen ∷ []),
      none text h (word.Increment ∷ word.Decrement ∷ []),
      none text h (word.And ∷ word.Star ∷ word.Plus ∷ word.Minus ∷ word.Tilde ∷ word.Not ∷ []),
      none text h (word.Sizeof ∷ []),
    ) refl

pub follow_unspelled : (text : List ℕ) → IsUnspelled text → follow_by text ≡ follows.Nothing
follow_unspelled text h =
    rw (
      none text h (word.LeftBracket ∷ []),
      none text h (word.LeftParen ∷ []),
      none text h (word.Dot ∷ word.Arrow ∷ []),
      none text h (word.Increment ∷ word.Decrement ∷ []),
      none text h (word.Star ∷ word.Slash ∷ word.Percent ∷ []),
      none text h (word.Plus ∷ word.Minus ∷ []),
      none text h (word.ShiftLeft ∷ word.ShiftRight ∷ []),
      none text h (word.Less ∷ word.Greater ∷ word.LessEqual ∷ word.GreaterEqual ∷ []),
      none text h (word.EqualEqual ∷ word.NotEqual ∷ []),
      none text h (word.And ∷ []),
      none text h (word.Caret ∷ []),
      none text h (word.Or ∷ []),
      none text h (word.AndAnd ∷ []),
      none text h (word.OrOr ∷ []),
      none text h (word.Question ∷ []),
      none text h (
          word.Equal ∷ word.StarEqual ∷ word.SlashEqual ∷ word.PercentEqual ∷ word.PlusEqual ∷ word.MinusEqual
          ∷ word.ShiftLeftEqual ∷ word.ShiftRightEqual ∷ word.AndEqual ∷ word.CaretEqual ∷ word.OrEqual ∷ []
          ),
      none text h (word.Comma ∷ []),
    ) refl

pub phrase_unspelled : (text : List ℕ) → IsUnspelled text → phrase_by text ≡ phrases.Other
phrase_unspelled text h =
    rw (
      lead_unspelled text h,
      sort_unspelled text h,
      none text h (word.LeftBrace ∷ []),
      none text h (word.RightBrace ∷ []),
      none text h (word.Semicolon ∷ []),
      none text h (word.If ∷ []),
      none text h (word.Else ∷ []),
      none text h (word.Switch ∷ []),
      none text h (word.While ∷ []),
      none text h (word.Do ∷ []),
      none text h (word.For ∷ []),
      none text h (word.Case ∷ []),
      none text h (word.Default ∷ []),
      none text h (word.Goto ∷ []),
      none text h (word.Break ∷ word.Continue ∷ []),
      none text h (word.Return ∷ []),
    ) refl
