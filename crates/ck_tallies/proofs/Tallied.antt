-- The tally of specifiers, part by part.
use Rattle.std.proofs.Common.{◌≡◌, ℕ, zero, suc, ◌+◌, Bool, true, false, ◌&&◌, ◌||◌, cond, List, [], ◌∷◌, refl, ap}
use Rattle.std.proofs.Common.{sym, ◌∙◌}
use Rattle.std.proofs.Common.{arith, ◌⊎◌, inl, inr, one-add, zero-add}
use Rattle.std.specs.Prelude.{codes, if◌then◌else◌}
use Rattle.std.specs.Str.{bytes_eq}
use Rattle.std.proofs.lemmas.Bool.{cases_Bool}
use Rattle.std.proofs.lemmas.Slice.Eq.{bytes_eq-Decides}
use Rattle.ck_base.specs.declared.tokens.Token.{Token}
use Rattle.ck_grammar.specs.Specified.{times, one_if, texts, text_before, count, some_word, is_storage, is_storage_word}
use Rattle.ck_grammar.specs.Specified.{is_type_word, is_inline, has_named, has_one_named}
use Rattle.ck_grammar.specs.Trees.{Specifiers, NoSpecifiers, TypedefName, Tagged, Struct, Enum}
use Rattle.ck_grammar.specs.Trees as trees
use Rattle.ck_grammar.specs.Words.{Word, Ordinary, Typedef, Number, String, Fixed, is_text, sort, sort_by, ◌∈words◌}
use Rattle.ck_tallies.specs.Tallies.{tallied, with_word, with_named, with_text, base_with, size_with, sign_with}
use Rattle.ck_tallies.specs.Tallies.{class_with}
use Rattle.ck_tallies.specs.declared.tallies.Base.{Base}
use Rattle.ck_tallies.specs.declared.tallies.Class.{Class}
use Rattle.ck_tallies.specs.declared.tallies.Named.{Named}
use Rattle.ck_tallies.specs.declared.tallies.Named.TheVariants as named
use Rattle.ck_tallies.specs.declared.tallies.Sign.{Sign}
use Rattle.ck_tallies.specs.declared.tallies.Size.{Size}
use Rattle.ck_tallies.specs.declared.tallies.Tally.{Tally}
use Rattle.ck_tallies.proofs.Counts.{Times, times_of, times_of-suc, next, base_at, void_more, char_more, int_more}
use Rattle.ck_tallies.proofs.Counts.{bool_more, size_at, short_more, long_more, sign_at, signed_more}
use Rattle.ck_tallies.proofs.Counts.{unsigned_more, class_at, register_more, typedef_more, other_more}

-- a test of a text against a word is true of that word alone
pub text_is : (text word : List ℕ) → bytes_eq text word ≡ true → text ≡ word
text_is text word h = (bytes_eq-Decides text word).0 h

-- how often a word is this text
abbrev pub hits : Word → List ℕ → ℕ
hits (Fixed other) text = one_if (bytes_eq other text)
hits _ text = 0

pub times-before : (word : Word) (others : List (List ℕ)) (text : List ℕ)
    → times (text_before word others) text ≡ hits word text + times others text
times-before (Fixed other) others text = refl
times-before Ordinary others text = sym (zero-add (times others text))
times-before Typedef others text = sym (zero-add (times others text))
times-before Number others text = sym (zero-add (times others text))
times-before String others text = sym (zero-add (times others text))

regroup : (word : Word) (others : List (List ℕ)) (text : List ℕ) (n : ℕ)
    → times others text + (hits word text + n) ≡ times (text_before word others) text + n
regroup word others text n = rw (times-before word others text) (omega arith)

-- A part of a tally that follows from how often each text comes.
module _ {C : Type 0} (part : Tally → C) (of : (List ℕ → ℕ) → C)
    (respects : (n m : List ℕ → ℕ) → ((text : List ℕ) → n text ≡ m text) → of n ≡ of m)
    (stays : (t : Tally) → part (with_named t) ≡ part t)
    (adds : (word : Word) (t : Tally) (n : List ℕ → ℕ) → part t ≡ of n
    → part (with_word word t) ≡ of (λ text. hits word text + n text)) (w : Token → Word) where
  pub counted : (s : Specifiers) (t : Tally) (n : List ℕ → ℕ) → part t ≡ of n
      → part (tallied w t s) ≡ of (λ text. times (texts w s) text + n text)
  counted NoSpecifiers t n e = e ∙ respects n _ (λ text. sym (zero-add (n text)))
  counted (trees.Word token rest) t n e =
      counted rest (with_word (w token) t) (λ text. hits (w token) text + n text) (adds (w token) t n e)
      ∙ respects _ _ (λ text. regroup (w token) (texts w rest) text (n text))
  counted (TypedefName token rest) t n e = counted rest (with_named t) n (stays t ∙ e)
  counted (Tagged keyword tag rest) t n e = counted rest (with_named t) n (stays t ∙ e)
  counted (Struct keyword tag opening m closing rest) t n e = counted rest (with_named t) n (stays t ∙ e)
  counted (Enum keyword tag opening m closing rest) t n e = counted rest (with_named t) n (stays t ∙ e)

-- one more, or as many
times_more : (b : Bool) (n : ℕ) → times_of (one_if b + n) ≡ (if b then next (times_of n) else times_of n)
times_more true n = rw one-add (times_of-suc n)
times_more false n = rw zero-add refl

abbrev pub base_of : (List ℕ → ℕ) → Base
base_of n =
    base_at (times_of (n (codes "void"))) (times_of (n (codes "char"))) (times_of (n (codes "int")))
    (times_of (n (codes "_Bool")))

base_step : (text : List ℕ) (v c i b : Times)
    → base_with text (base_at v c i b)
    ≡ base_at (if bytes_eq text (codes "void") then next v else v) (if bytes_eq text (codes "char") then next c else c)
    (if bytes_eq text (codes "int") then next i else i) (if bytes_eq text (codes "_Bool") then next b else b)
base_step text v c i b =
    elim (cases_Bool (bytes_eq text (codes "void"))) [
      | inl e ↦ rw (text_is text (codes "void") e) (sym (void_more v c i b))
      | inr n ↦ elim (cases_Bool (bytes_eq text (codes "char"))) [
        | inl e ↦ rw (text_is text (codes "char") e) (sym (char_more v c i b))
        | inr m ↦ elim (cases_Bool (bytes_eq text (codes "int"))) [
          | inl e ↦ rw (text_is text (codes "int") e) (sym (int_more v c i b))
          | inr k ↦ elim (cases_Bool (bytes_eq text (codes "_Bool"))) [
            | inl e ↦ rw (text_is text (codes "_Bool") e) (sym (bool_more v c i b))
            | inr l ↦ rw (n, m, k, l) refl
          ]
        ]
      ]
    ]

base_adds : (word : Word) (t : Tally) (n : List ℕ → ℕ) → t.base ≡ base_of n
    → (with_word word t).base ≡ base_of (λ text. hits word text + n text)
base_adds (Fixed text) t n e =
    ap (base_with text) e ∙ base_step text _ _ _ _
    ∙ sym (rw (
      times_more (bytes_eq text (codes "void")) (n (codes "void")),
      times_more (bytes_eq text (codes "char")) (n (codes "char")),
      times_more (bytes_eq text (codes "int")) (n (codes "int")),
      times_more (bytes_eq text (codes "_Bool")) (n (codes "_Bool")),
    ) refl)
base_adds Ordinary t n e = e ∙ simp zero-add
base_adds Typedef t n e = e ∙ simp zero-add
base_adds Number t n e = e ∙ simp zero-add
base_adds String t n e = e ∙ simp zero-add

pub base_counted : (w : Token → Word) (s : Specifiers) (t : Tally) (n : List ℕ → ℕ) → t.base ≡ base_of n
    → (tallied w t s).base ≡ base_of (λ text. times (texts w s) text + n text)
base_counted w =
    counted (λ t. t.base) base_of
    (λ n m h. rw (h (codes "void"), h (codes "char"), h (codes "int"), h (codes "_Bool")) refl)
    (λ t. refl) base_adds w

abbrev pub size_of : (List ℕ → ℕ) → Size
size_of n = size_at (times_of (n (codes "short"))) (times_of (n (codes "long")))

size_step : (text : List ℕ) (s l : Times)
    → size_with text (size_at s l)
    ≡ size_at (if bytes_eq text (codes "short") then next s else s) (if bytes_eq text (codes "long") then next l else l)
size_step text s l =
    elim (cases_Bool (bytes_eq text (codes "short"))) [
      | inl e ↦ rw (text_is text (codes "short") e) (sym (short_more s l))
      | inr n ↦ elim (cases_Bool (bytes_eq text (codes "long"))) [
        | inl e ↦ rw (text_is text (codes "long") e) (sym (long_more s l))
        | inr m ↦ rw (n, m) refl
      ]
    ]

size_adds : (word : Word) (t : Tally) (n : List ℕ → ℕ) → t.size ≡ size_of n
    → (with_word word t).size ≡ size_of (λ text. hits word text + n text)
size_adds (Fixed text) t n e =
    ap (size_with text) e ∙ size_step text _ _
    ∙ sym (rw (
      times_more (bytes_eq text (codes "short")) (n (codes "short")),
      times_more (bytes_eq text (codes "long")) (n (codes "long")),
    ) refl)
size_adds Ordinary t n e = e ∙ simp zero-add
size_adds Typedef t n e = e ∙ simp zero-add
size_adds Number t n e = e ∙ simp zero-add
size_adds String t n e = e ∙ simp zero-add

pub size_counted : (w : Token → Word) (s : Specifiers) (t : Tally) (n : List ℕ → ℕ) → t.size ≡ size_of n
    → (tallied w t s).size ≡ size_of (λ text. times (texts w s) text + n text)
size_counted w =
    counted (λ t. t.size) size_of (λ n m h. rw (h (codes "short"), h (codes "long")) refl) (λ t. refl) size_adds w

abbrev pub sign_of : (List ℕ → ℕ) → Sign
sign_of n = sign_at (times_of (n (codes "signed"))) (times_of (n (codes "unsigned")))

sign_step : (text : List ℕ) (g u : Times)
    → sign_with text (sign_at g u)
    ≡ sign_at (if bytes_eq text (codes "signed") then next g else g)
    (if bytes_eq text (codes "unsigned") then next u else u)
sign_step text g u =
    elim (cases_Bool (bytes_eq text (codes "signed"))) [
      | inl e ↦ rw (text_is text (codes "signed") e) (sym (signed_more g u))
      | inr n ↦ elim (cases_Bool (bytes_eq text (codes "unsigned"))) [
        | inl e ↦ rw (text_is text (codes "unsigned") e) (sym (unsigned_more g u))
        | inr m ↦ rw (n, m) refl
      ]
    ]

sign_adds : (word : Word) (t : Tally) (n : List ℕ → ℕ) → t.sign ≡ sign_of n
    → (with_word word t).sign ≡ sign_of (λ text. hits word text + n text)
sign_adds (Fixed text) t n e =
    ap (sign_with text) e ∙ sign_step text _ _
    ∙ sym (rw (
      times_more (bytes_eq text (codes "signed")) (n (codes "signed")),
      times_more (bytes_eq text (codes "unsigned")) (n (codes "unsigned")),
    ) refl)
sign_adds Ordinary t n e = e ∙ simp zero-add
sign_adds Typedef t n e = e ∙ simp zero-add
sign_adds Number t n e = e ∙ simp zero-add
sign_adds String t n e = e ∙ simp zero-add

pub sign_counted : (w : Token → Word) (s : Specifiers) (t : Tally) (n : List ℕ → ℕ) → t.sign ≡ sign_of n
    → (tallied w t s).sign ≡ sign_of (λ text. times (texts w s) text + n text)
sign_counted w =
    counted (λ t. t.sign) sign_of (λ n m h. rw (h (codes "signed"), h (codes "unsigned")) refl) (λ t. refl) sign_adds w
