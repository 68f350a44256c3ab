-- The storage classes of specifiers (C99 6.7.1) by their tally.
use Rattle.std.proofs.Common.{◌≡◌, ℕ, zero, suc, ◌+◌, ◌≤◌, ◌<◌, Bool, true, false, not, ◌&&◌, ◌||◌, List, [], ◌∷◌}
use Rattle.std.proofs.Common.{refl, ap}
use Rattle.std.proofs.Common.{sym, ◌∙◌, arith, ◌⊎◌, inl, inr, one-add, zero-add}
use Rattle.std.specs.Prelude.{codes, ◌==◌, nat_le, if◌then◌else◌}
use Rattle.std.specs.Str.{bytes_eq}
use Rattle.std.proofs.lemmas.Bool.{cases_Bool, lt-leb}
use Rattle.ck_base.specs.declared.tokens.Token.{Token}
use Rattle.ck_grammar.specs.Specified.{times, one_if, texts, count, is_storage, is_storage_word, storage_fits}
use Rattle.ck_grammar.specs.Specified.{some_word}
use Rattle.ck_grammar.specs.Specified.{is_inline}
use Rattle.ck_grammar.specs.Trees.{Specifiers, NoSpecifiers, TypedefName, Tagged, Struct, Enum}
use Rattle.ck_grammar.specs.Trees as trees
use Rattle.ck_grammar.specs.Words.{Word, Ordinary, Typedef, Number, String, Fixed, is_text, sort, sort_by}
use Rattle.ck_grammar.specs.declared.classes.Sort.TheVariants.{Qualifier, Inline, TypeWord, StructWord, EnumWord}
use Rattle.ck_grammar.specs.declared.classes.Sort.TheVariants.{Star, RoundMark, SquareMark, CurlyMark, CloseMark}
use Rattle.ck_grammar.specs.declared.classes.Sort.TheVariants.{Other}
use Rattle.ck_tallies.specs.Tallies.{tallied, with_word, with_named, class_and, class_with, class_fits}
use Rattle.ck_tallies.specs.Places.{place_word}
use Rattle.ck_tallies.specs.declared.places.Place.{Place}
use Rattle.ck_tallies.specs.declared.places.Place.TheVariants.{InType, InParameter, InBlock, InFile}
use Rattle.ck_tallies.specs.declared.tallies.Class.{Class}
use Rattle.ck_tallies.specs.declared.tallies.Class.TheVariants as class
use Rattle.ck_tallies.specs.declared.tallies.Tally.{Tally}
use Rattle.ck_tallies.proofs.Counts.{Times, times_of, times_of-suc, next, class_at, register_more, typedef_more}
use Rattle.ck_tallies.proofs.Counts.{other_more}
use Rattle.ck_tallies.proofs.Tallied.{text_is, hits, times-before, counted}

-- `extern`, `static` and `auto`
abbrev pub others : (List ℕ → ℕ) → ℕ
others n = n (codes "extern") + (n (codes "static") + n (codes "auto"))

abbrev pub class_of : (List ℕ → ℕ) → Class
class_of n = class_at (times_of (n (codes "register"))) (times_of (n (codes "typedef"))) (times_of (others n))

other_adds : (n : List ℕ → ℕ) (r t o : ℕ) → r ≡ n (codes "register") → t ≡ n (codes "typedef") → o ≡ suc (others n)
    → class_and (class_of n) class.Other ≡ class_at (times_of r) (times_of t) (times_of o)
other_adds n r t o e f g = rw (e, f, g, times_of-suc (others n)) (sym (other_more _ _ _))

-- a text as one more word
class_adds_text : (text : List ℕ) (n : List ℕ → ℕ)
    → class_with text (class_of n) ≡ class_of (λ word. one_if (bytes_eq text word) + n word)
class_adds_text text n =
    elim (cases_Bool (bytes_eq text (codes "register"))) [
      | inl e ↦ rw (text_is text (codes "register") e) (sym (simp (zero-add, one-add)
          (rw (times_of-suc (n (codes "register"))) (register_more _ _ _))))
      | inr a ↦ elim (cases_Bool (bytes_eq text (codes "typedef"))) [
        | inl e ↦ rw (text_is text (codes "typedef") e) (sym (simp (zero-add, one-add)
            (rw (times_of-suc (n (codes "typedef"))) (typedef_more _ _ _))))
        | inr b ↦ elim (cases_Bool (bytes_eq text (codes "extern"))) [
          | inl e ↦ rw (text_is text (codes "extern") e)
              (other_adds n _ _ _ (zero-add _) (zero-add _) (omega arith))
          | inr c ↦ elim (cases_Bool (bytes_eq text (codes "static"))) [
            | inl e ↦ rw (text_is text (codes "static") e)
                (other_adds n _ _ _ (zero-add _) (zero-add _) (omega arith))
            | inr d ↦ elim (cases_Bool (bytes_eq text (codes "auto"))) [
              | inl e ↦ rw (text_is text (codes "auto") e)
                  (other_adds n _ _ _ (zero-add _) (zero-add _) (omega arith))
              | inr f ↦ rw (a, b, c, d, f) (sym (simp zero-add))
            ]
          ]
        ]
      ]
    ]

class_adds : (word : Word) (t : Tally) (n : List ℕ → ℕ) → t.class ≡ class_of n
    → (with_word word t).class ≡ class_of (λ text. hits word text + n text)
class_adds (Fixed text) t n e = ap (class_with text) e ∙ class_adds_text text n
class_adds Ordinary t n e = e ∙ simp zero-add
class_adds Typedef t n e = e ∙ simp zero-add
class_adds Number t n e = e ∙ simp zero-add
class_adds String t n e = e ∙ simp zero-add

pub class_counted : (w : Token → Word) (s : Specifiers) (t : Tally) (n : List ℕ → ℕ) → t.class ≡ class_of n
    → (tallied w t s).class ≡ class_of (λ text. times (texts w s) text + n text)
class_counted w =
    counted (λ t. t.class) class_of (λ n m h. rw (
      h (codes "register"),
      h (codes "typedef"),
      h (codes "extern"),
      h (codes "static"),
      h (codes "auto"),
    ) refl) (λ t. refl) class_adds w

-- words that are counted by their text
count_hits : (word : Word) (text : List ℕ) → one_if (is_text text word) ≡ hits word text
count_hits (Fixed other) text = refl
count_hits Ordinary text = refl
count_hits Typedef text = refl
count_hits Number text = refl
count_hits String text = refl

pub count_text : (w : Token → Word) (text : List ℕ) (s : Specifiers) → count w (is_text text) s ≡ times (texts w s) text
count_text w text NoSpecifiers = refl
count_text w text (trees.Word token rest) =
    rw (count_hits (w token) text, count_text w text rest) (sym (times-before (w token) (texts w rest) text))
count_text w text (TypedefName token rest) = count_text w text rest
count_text w text (Tagged keyword tag rest) = count_text w text rest
count_text w text (Struct keyword tag opening m closing rest) = count_text w text rest
count_text w text (Enum keyword tag opening m closing rest) = count_text w text rest

-- how many storage classes, by the texts
abbrev storages : (List ℕ → ℕ) → ℕ
storages n = n (codes "register") + (n (codes "typedef") + others n)

not_storage : (a b c d e f g h i j : Bool)
    → is_storage (if a then Qualifier else if b then Inline else if c then TypeWord else if d then StructWord
    else if e then EnumWord else if f then Star else if g then RoundMark else if h then SquareMark
    else if i then CurlyMark else if j then CloseMark else Other) ≡ false
not_storage true b c d e f g h i j = refl
not_storage false true c d e f g h i j = refl
not_storage false false true d e f g h i j = refl
not_storage false false false true e f g h i j = refl
not_storage false false false false true f g h i j = refl
not_storage false false false false false true g h i j = refl
not_storage false false false false false false true h i j = refl
not_storage false false false false false false false true i j = refl
not_storage false false false false false false false false true j = refl
not_storage false false false false false false false false false true = refl
not_storage false false false false false false false false false false = refl

storage_text : (text : List ℕ) → one_if (is_storage (sort_by text)) ≡ storages (λ word. one_if (bytes_eq text word))
storage_text text =
    elim (cases_Bool (bytes_eq text (codes "register"))) [
      | inl e ↦ rw (text_is text (codes "register") e) refl
      | inr a ↦ elim (cases_Bool (bytes_eq text (codes "typedef"))) [
        | inl e ↦ rw (text_is text (codes "typedef") e) refl
        | inr b ↦ elim (cases_Bool (bytes_eq text (codes "extern"))) [
          | inl e ↦ rw (text_is text (codes "extern") e) refl
          | inr c ↦ elim (cases_Bool (bytes_eq text (codes "static"))) [
            | inl e ↦ rw (text_is text (codes "static") e) refl
            | inr d ↦ elim (cases_Bool (bytes_eq text (codes "auto"))) [
              | inl e ↦ rw (text_is text (codes "auto") e) refl
              | inr f ↦ rw (a, b, c, d, f) (ap one_if (not_storage _ _ _ _ _ _ _ _ _ _))
            ]
          ]
        ]
      ]
    ]

storage_hits : (word : Word) → one_if (is_storage_word word) ≡ storages (hits word)
storage_hits (Fixed text) = storage_text text
storage_hits Ordinary = refl
storage_hits Typedef = refl
storage_hits Number = refl
storage_hits String = refl

pub count_storage : (w : Token → Word) (s : Specifiers) → count w is_storage_word s ≡ storages (times (texts w s))
count_storage w NoSpecifiers = refl
count_storage w (trees.Word token rest) =
    rw (
      storage_hits (w token),
      count_storage w rest,
      times-before (w token) (texts w rest) (codes "register"),
      times-before (w token) (texts w rest) (codes "typedef"),
      times-before (w token) (texts w rest) (codes "extern"),
      times-before (w token) (texts w rest) (codes "static"),
      times-before (w token) (texts w rest) (codes "auto"),
    )
    (omega arith)
count_storage w (TypedefName token rest) = count_storage w rest
count_storage w (Tagged keyword tag rest) = count_storage w rest
count_storage w (Struct keyword tag opening m closing rest) = count_storage w rest
count_storage w (Enum keyword tag opening m closing rest) = count_storage w rest
