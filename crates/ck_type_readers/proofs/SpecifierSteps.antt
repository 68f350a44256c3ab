-- A specifier that is pushed: what is read, and the tally with it.
use Rattle.std.proofs.Common.{◌≡◌, ℕ, Bool, true, false, ◌||◌, List, [], ◌∷◌, drop, refl, ap, sym}
use Rattle.std.proofs.Common.{◌∙◌}
use Rattle.std.specs.Prelude.{Option, Some, None, Result, Ok, Err, if◌then◌else◌}
use Rattle.ck_base.specs.declared.refusals.OutOfMemory.{OutOfMemory}
use Rattle.ck_base.specs.declared.tokens.Token.{Token}
use Rattle.ck_grammar.specs.Fitting.{is_specifier_word}
use Rattle.ck_grammar.specs.Readers.{Read, Reader, ◌>>=◌, onto, mark, identifier}
use Rattle.ck_grammar.specs.ReadingTypes.{begins_with, is_curly, body, tagged}
use Rattle.ck_grammar.specs.Specified.{is_type_word}
use Rattle.ck_grammar.specs.Trees.{Specifiers, TypedefName, Tagged, Struct, Enum, Members, Enumerators}
use Rattle.ck_grammar.specs.Trees as trees
use Rattle.ck_grammar.specs.Words.{Word, Ordinary, Typedef, Number, String, Fixed, is_identifier, sort, sort_by}
use Rattle.ck_grammar.specs.declared.classes.Sort.{Sort}
use Rattle.ck_grammar.specs.declared.classes.Sort.TheVariants.{StructWord, EnumWord, TypeName}
use Rattle.ck_readers.specs.Places.{after, itself, IsRead, SteppedAt, StepAt, IsTold}
use Rattle.ck_type_readers.proofs.Readings.{taken_if}
use Rattle.ck_type_readers.specs.Specifying.{HasTally, IsSpecifier, NoSpecifier, SpecifiedAt, SpecifierAt}
use Rattle.ck_type_readers.specs.Steps.{name_step, word_step, word_first, specifier_by, specifier_step, struct_step}
use Rattle.ck_type_readers.specs.Steps.{enum_step}
use Rattle.ck_tallies.specs.Tallies.{nothing, tallied, has_type, with_word, with_named, named_to, is_some_named}
use Rattle.ck_tallies.specs.Tallies.{and_named}
use Rattle.ck_tallies.specs.declared.tallies.Named.{Named}
use Rattle.ck_tallies.specs.declared.tallies.Named.TheVariants as named
use Rattle.ck_tallies.specs.declared.tallies.Tally.{Tally}

some_more : (n : Named) → is_some_named (and_named n) ≡ true
some_more named.Nothing = refl
some_more named.One = refl
some_more named.Many = refl

or_true : (b c : Bool) → c ≡ true → (b || c) ≡ true
or_true true c h = refl
or_true false c h = h

-- a named type is a type
has_named_type : (t : Tally) → has_type (with_named t) ≡ true
has_named_type t = or_true t.typed _ (some_more t.named)

or_swap : (a b c : Bool) → ((a || b) || c) ≡ ((a || c) || b)
or_swap true b c = refl
or_swap false true true = refl
or_swap false true false = refl
or_swap false false true = refl
or_swap false false false = refl

-- a word is a type where it is a type word
has_word_type : (word : Word) (t : Tally) → is_specifier_word (sort word) ≡ true
    → has_type (with_word word t) ≡ (has_type t || is_type_word (sort word))
has_word_type (Fixed text) t h = or_swap t.typed (is_type_word (sort_by text)) (is_some_named t.named)
has_word_type Ordinary t h = absurd (cc)
has_word_type Typedef t h = absurd (cc)
has_word_type Number t h = absurd (cc)
has_word_type String t h = absurd (cc)

word_read : (w : Token → Word) (old new : Specifiers → Specifiers) (t : Token) (tally : Tally) (ts : List Token)
    → is_specifier_word (sort (w t)) ≡ true → ((rest : Specifiers) → new rest ≡ old (trees.Word t rest))
    → (go : Bool → List Token → Specifiers × List Token)
    → after old (word_first w go (has_type tally) (t ∷ ts))
    ≡ Some (onto new (go (has_type (with_word (w t) tally)) ts))
word_read w old new t tally ts h pushed go =
    rw (h, has_word_type (w t) tally h) (ap (λ s. Some (s, (go (has_type tally || is_type_word (sort (w t))) ts).1))
    (sym (pushed (go (has_type tally || is_type_word (sort (w t))) ts).0)))

module _ (w : Token → Word) {old new : Specifiers → Specifiers} {tokens : List Token} where
  pub name_pushed : (t : Token) (tally : Tally) (place : ℕ) → has_type tally ≡ false
      → ((rest : Specifiers) → new rest ≡ old (TypedefName t rest))
      → IsSpecifier w old new (name_step t) tokens tally place (with_named tally, place)
  name_pushed t tally place untyped pushed = record {
    read = λ go. rw (untyped, has_named_type tally, pushed) refl;
    told = λ h rest. ap (tallied w nothing) (pushed rest) ∙ h (TypedefName t rest);
    within = λ h. h;
  }

  pub no_name : (t : Token) (tally : Tally) (place : ℕ) → has_type tally ≡ true
      → ((rest : Specifiers) → new rest ≡ old rest)
      → NoSpecifier w old new (name_step t) tokens tally place
  no_name t tally place typed stays = record { none = λ go. rw typed refl; stays = stays }

  pub word_pushed : {at : ℕ} {found : Token × Sort × ℕ} {tally told : Tally}
      → IsTold (λ t. sort (w t)) tokens at found → is_specifier_word found.1 ≡ true
      → ((rest : Specifiers) → new rest ≡ old (trees.Word found.0 rest)) → told ≡ with_word (w found.0) tally
      → IsSpecifier w old new (word_first w) tokens tally at (told, found.2)
  word_pushed {at} {found} {tally} {told} is one pushed as_told = record {
    read = λ go. rw (is.token, as_told) (word_read w old new found.0 tally _ (rw (sym is.told) one) pushed go);
    told = λ h rest. ap (tallied w nothing) (pushed rest) ∙ h (trees.Word found.0 rest)
        ∙ ap (λ t. tallied w t rest) (sym as_told);
    within = λ h. is.within;
  }

  pub no_word : {at : ℕ} {found : Token × Sort × ℕ} {tally : Tally} → IsTold (λ t. sort (w t)) tokens at found
      → is_specifier_word found.1 ≡ false → ((rest : Specifiers) → new rest ≡ old rest)
      → NoSpecifier w old new (word_first w) tokens tally at
  no_word {at} {found} is other stays = record {
    none = λ go. rw (is.token, sym is.told, other) refl;
    stays = stays;
  }

  pub no_word_at_end : {at : ℕ} {tally : Tally} → drop at tokens ≡ [] → ((rest : Specifiers) → new rest ≡ old rest)
      → NoSpecifier w old new (word_first w) tokens tally at
  no_word_at_end over stays = record { none = λ go. rw over refl; stays = stays }

-- a tag and a body after it
module _ (w : Token → Word) {M : Type 0} (inner : Reader M)
    (make : Option Token → Token → M → Token → Specifiers → Specifiers) (keyword : Token) where
  tag_first : (ts : List Token) (x : Token × List Token) → identifier w ts ≡ Some x
      → begins_with w is_curly x.1 ≡ true → (go : List Token → Specifiers × List Token)
      → tagged w inner make go keyword ts ≡ body w inner (make (Some x.0)) go x.1
  tag_first [] x h b go = absurd (cc)
  tag_first (t ∷ ts) x h b go = by_word (is_identifier (w t)) h where
    by_word : (a : Bool) → taken_if a t ts ≡ Some x
        → (if a then (if begins_with w is_curly ts then body w inner (make (Some t)) go ts
        else Some (onto (Tagged keyword t) (go ts))) else body w inner (make None) go (t ∷ ts))
        ≡ body w inner (make (Some x.0)) go x.1
    by_word true h =
        let e : (t, ts) ≡ x = cc in
        let same_tag : t ≡ x.0 = ap (λ y. y.0) e in
        let same_rest : ts ≡ x.1 = ap (λ y. y.1) e in
        rw (same_tag, same_rest, b) refl
    by_word false h = absurd (cc)

  module _ (old new : Specifiers → Specifiers) (tokens : List Token) (at : ℕ) (found : Token × ℕ)
      (there : IsRead itself (identifier w) tokens at found)
      (opens : begins_with w is_curly (drop found.1 tokens) ≡ true) where
    pub body_after_tag : (result : Result (Option ℕ) OutOfMemory)
        → StepAt old new (λ go. body w inner (make (Some found.0)) go) tokens found.1 result
        → StepAt old new (λ go. tagged w inner make go keyword) tokens at result
    body_after_tag (Err e) h = tt
    body_after_tag (Ok None) none = record {
      none = λ go. tag_first (drop at tokens) (found.0, drop found.1 tokens) there.read opens go ∙ none.none go;
      stays = none.stays;
    }
    body_after_tag (Ok (Some next)) step = record {
      read =
          λ go. ap (after old) (tag_first (drop at tokens) (found.0, drop found.1 tokens) there.read opens go)
          ∙ step.read go;
      within = λ h. step.within (there.within h);
    }

-- what is read after `struct` or `enum` is one named type
from_bind : {A B C : Type 0} (m : Option A) (next : A → Option B) (y : B) → (m >>= next) ≡ Some y
    → ((a : A) → next a ≡ Some y → C) → C
from_bind None next y h f = absurd (cc)
from_bind (Some a) next y h f = f a h

some_is : {A : Type 0} {a b : A} → Some a ≡ Some b → a ≡ b
some_is h = cc

module _ (w : Token → Word) {M : Type 0} (inner : Reader M) (rest : Specifiers) (of : Specifiers → Tally)
    (all : Tally) where
  body_tallied : (make : Token → M → Token → Specifiers → Specifiers)
      → ((opening : Token) (m : M) (closing : Token) → of (make opening m closing rest) ≡ all) → (ts : List Token)
      → (x : Specifiers × List Token) → body w inner make (λ more. (rest, [])) ts ≡ Some x → of x.0 ≡ all
  body_tallied make one ts x h =
      from_bind (mark w "{" ts) _ x h (λ a i. from_bind (inner a.1) _ x i (λ b j. from_bind (mark w "}" b.1) _ x j
      (λ c k. ap (λ y. of y.0) (sym (some_is k)) ∙ one a.0 b.0 c.0)))

  tagged_tallied : (make : Option Token → Token → M → Token → Specifiers → Specifiers) (keyword : Token)
      → ((tag : Option Token) (opening : Token) (m : M) (closing : Token) → of (make tag opening m closing rest) ≡ all)
      → ((tag : Token) → of (Tagged keyword tag rest) ≡ all) → (ts : List Token) → (x : Specifiers × List Token)
      → tagged w inner make (λ more. (rest, [])) keyword ts ≡ Some x → of x.0 ≡ all
  tagged_tallied make keyword one tag [] x h = absurd (cc)
  tagged_tallied make keyword one tag (t ∷ ts) x h =
      by_tag (is_identifier (w t)) (begins_with w is_curly ts) h where
        by_tag : (a b : Bool)
            → (if a then (if b then body w inner (make (Some t)) (λ more. (rest, [])) ts
            else Some (Tagged keyword t rest, [])) else body w inner (make None) (λ more. (rest, [])) (t ∷ ts)) ≡ Some x
            → of x.0 ≡ all
        by_tag true true k = body_tallied (make (Some t)) (one (Some t)) ts x k
        by_tag true false k = ap (λ y. of y.0) (sym (some_is k)) ∙ tag t
        by_tag false b k = body_tallied (make None) (one None) (t ∷ ts) x k

from_after : {C : Type 0} (old : Specifiers → Specifiers) (answer : Read Specifiers) (y : Specifiers × List Token)
    → after old answer ≡ Some y → ((x : Specifiers × List Token) → answer ≡ Some x → onto old x ≡ y → C) → C
from_after old None y h f = absurd (cc)
from_after old (Some x) y h f = f x refl (some_is h)

module _ (w : Token → Word) (old new : Specifiers → Specifiers) (tally : Tally) where
  named_told : {M : Type 0} (inner : Reader M) (make : Option Token → Token → M → Token → Specifiers → Specifiers)
      (keyword : Token) (ts more : List Token)
      → ((t : Tally) (rest : Specifiers) (tag : Option Token) (opening : Token) (m : M) (closing : Token)
      → tallied w t (make tag opening m closing rest) ≡ tallied w (with_named t) rest)
      → ((go : List Token → Specifiers × List Token)
      → after old (tagged w inner make go keyword ts) ≡ Some (onto new (go more)))
      → HasTally w old tally → HasTally w new (with_named tally)
  named_told inner make keyword ts more one read h rest =
      from_after old _ _ (read (λ ts. (rest, []))) (λ x e k.
      ap (λ y. tallied w nothing y.0) (sym k) ∙ h x.0
      ∙ tagged_tallied w inner rest (tallied w tally) (tallied w (with_named tally) rest) make keyword
      (one tally rest) (λ tag. refl) ts x e)

  module _ (members : Reader Members) (enumerators : Reader Enumerators) {tokens : List Token} {at : ℕ}
      {found : Token × Sort × ℕ} (is : IsTold (λ t. sort (w t)) tokens at found) where
    first_is : (s : Sort) → found.1 ≡ s → (go : Bool → List Token → Specifiers × List Token) (seen : Bool)
        → specifier_step w members enumerators go seen (drop at tokens)
        ≡ specifier_by w members enumerators go seen s found.0 (drop found.2 tokens)
    first_is s e go seen = rw (is.token, sym is.told, e) refl

    pub struct_specified : found.1 ≡ StructWord → (next : Option ℕ)
        → SteppedAt old new (struct_step w members found.0) tokens found.2 next
        → SpecifiedAt w old new (specifier_step w members enumerators) tokens tally at (named_to tally next)
    struct_specified e None step = record {
      none = λ go. first_is StructWord e go (has_type tally) ∙ step.none (go true);
      stays = step.stays;
    }
    struct_specified e (Some next) step = record {
      read = λ go. ap (after old) (first_is StructWord e go (has_type tally))
          ∙ (rw (has_named_type tally) (step.read (go true)));
      told = named_told members (λ tag. Struct found.0 tag) found.0 (drop found.2 tokens) (drop next tokens)
          (λ t rest tag opening m closing. refl) step.read;
      within = λ h. step.within is.within;
    }

    pub enum_specified : found.1 ≡ EnumWord → (next : Option ℕ)
        → SteppedAt old new (enum_step w enumerators found.0) tokens found.2 next
        → SpecifiedAt w old new (specifier_step w members enumerators) tokens tally at (named_to tally next)
    enum_specified e None step = record {
      none = λ go. first_is EnumWord e go (has_type tally) ∙ step.none (go true);
      stays = step.stays;
    }
    enum_specified e (Some next) step = record {
      read = λ go. ap (after old) (first_is EnumWord e go (has_type tally))
          ∙ (rw (has_named_type tally) (step.read (go true)));
      told = named_told enumerators (λ tag. Enum found.0 tag) found.0 (drop found.2 tokens) (drop next tokens)
          (λ t rest tag opening m closing. refl) step.read;
      within = λ h. step.within is.within;
    }

    pub name_specified : found.1 ≡ TypeName → (result : Result (Option (Tally × ℕ)) OutOfMemory)
        → SpecifierAt w old new (name_step found.0) tokens tally found.2 result
        → SpecifierAt w old new (specifier_step w members enumerators) tokens tally at result
    name_specified e (Err error) h = h
    name_specified e (Ok None) no_name = record {
      none = λ go. first_is TypeName e go (has_type tally) ∙ no_name.none go;
      stays = no_name.stays;
    }
    name_specified e (Ok (Some result)) name = record {
      read = λ go. ap (after old) (first_is TypeName e go (has_type tally)) ∙ name.read go;
      told = name.told;
      within = λ h. name.within is.within;
    }

    other_by : (go : Bool → List Token → Specifiers × List Token) (seen : Bool) (s : Sort) (t : Token)
        (ts : List Token) → (s ≡ StructWord → ⊥) → (s ≡ EnumWord → ⊥) → (s ≡ TypeName → ⊥)
        → specifier_by w members enumerators go seen s t ts ≡ word_step s t go seen ts
    other_by go seen StructWord t ts a b c = absurd (a refl)
    other_by go seen EnumWord t ts a b c = absurd (b refl)
    other_by go seen TypeName t ts a b c = absurd (c refl)
    other_by go seen _ t ts a b c = refl

    other_first : (found.1 ≡ StructWord → ⊥) → (found.1 ≡ EnumWord → ⊥) → (found.1 ≡ TypeName → ⊥)
        → (go : Bool → List Token → Specifiers × List Token) (seen : Bool)
        → specifier_step w members enumerators go seen (drop at tokens) ≡ word_first w go seen (drop at tokens)
    other_first a b c go seen =
        first_is found.1 refl go seen ∙ other_by go seen found.1 found.0 (drop found.2 tokens) a b c
        ∙ sym (rw (is.token, sym is.told) refl)

    pub word_specified : (found.1 ≡ StructWord → ⊥) → (found.1 ≡ EnumWord → ⊥) → (found.1 ≡ TypeName → ⊥)
        → (result : Result (Option (Tally × ℕ)) OutOfMemory)
        → SpecifierAt w old new (word_first w) tokens tally at result
        → SpecifierAt w old new (specifier_step w members enumerators) tokens tally at result
    word_specified a b c (Err error) h = h
    word_specified a b c (Ok None) no_word = record {
      none = λ go. other_first a b c go (has_type tally) ∙ no_word.none go;
      stays = no_word.stays;
    }
    word_specified a b c (Ok (Some result)) word = record {
      read = λ go. ap (after old) (other_first a b c go (has_type tally)) ∙ word.read go;
      told = word.told;
      within = word.within;
    }
