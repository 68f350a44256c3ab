-- Whether type words and `inline` are among specifiers, and how many typedef names, structs and enums, by their tally.
use Rattle.std.proofs.Common.{◌≡◌, Bool, true, false, not, ◌||◌, refl, ap, sym, ◌∙◌}
use Rattle.std.specs.Prelude.{if◌then◌else◌}
use Rattle.ck_base.specs.declared.tokens.Token.{Token}
use Rattle.ck_grammar.specs.Specified.{some_word, is_type_word, is_inline, has_named, has_one_named}
use Rattle.ck_grammar.specs.Trees.{Specifiers, NoSpecifiers, TypedefName, Tagged, Struct, Enum}
use Rattle.ck_grammar.specs.Trees as trees
use Rattle.ck_grammar.specs.Words.{Word, Ordinary, Typedef, Number, String, Fixed, sort}
use Rattle.ck_grammar.specs.declared.classes.Sort.{Sort}
use Rattle.ck_tallies.specs.Tallies.{tallied, with_word, with_named, and_named}
use Rattle.ck_tallies.specs.declared.tallies.Named.{Named}
use Rattle.ck_tallies.specs.declared.tallies.Named.TheVariants as named
use Rattle.ck_tallies.specs.declared.tallies.Tally.{Tally}

or_false : (b : Bool) → b ≡ (b || false)
or_false true = refl
or_false false = refl

or_assoc : (a b c : Bool) → ((a || b) || c) ≡ (a || (b || c))
or_assoc true b c = refl
or_assoc false b c = refl

module _ (flag : Tally → Bool) (test : Sort → Bool)
    (adds : (word : Word) (t : Tally) → flag (with_word word t) ≡ (flag t || test (sort word)))
    (stays : (t : Tally) → flag (with_named t) ≡ flag t) (w : Token → Word) where
  flagged : (s : Specifiers) (t : Tally) → flag (tallied w t s) ≡ (flag t || some_word w test s)
  flagged NoSpecifiers t = or_false (flag t)
  flagged (trees.Word token rest) t =
      flagged rest (with_word (w token) t) ∙ ap (λ b. b || some_word w test rest) (adds (w token) t)
      ∙ or_assoc (flag t) (test (sort (w token))) (some_word w test rest)
  flagged (TypedefName token rest) t = flagged rest (with_named t) ∙ ap (λ b. b || some_word w test rest) (stays t)
  flagged (Tagged keyword tag rest) t = flagged rest (with_named t) ∙ ap (λ b. b || some_word w test rest) (stays t)
  flagged (Struct keyword tag opening m closing rest) t =
      flagged rest (with_named t) ∙ ap (λ b. b || some_word w test rest) (stays t)
  flagged (Enum keyword tag opening m closing rest) t =
      flagged rest (with_named t) ∙ ap (λ b. b || some_word w test rest) (stays t)

typed_adds : (word : Word) (t : Tally) → (with_word word t).typed ≡ (t.typed || is_type_word (sort word))
typed_adds (Fixed text) t = refl
typed_adds Ordinary t = or_false t.typed
typed_adds Typedef t = or_false t.typed
typed_adds Number t = or_false t.typed
typed_adds String t = or_false t.typed

inline_adds : (word : Word) (t : Tally) → (with_word word t).inline ≡ (t.inline || is_inline (sort word))
inline_adds (Fixed text) t = refl
inline_adds Ordinary t = or_false t.inline
inline_adds Typedef t = or_false t.inline
inline_adds Number t = or_false t.inline
inline_adds String t = or_false t.inline

pub typed_tallied : (w : Token → Word) (s : Specifiers) (t : Tally)
    → (tallied w t s).typed ≡ (t.typed || some_word w is_type_word s)
typed_tallied = flagged (λ t. t.typed) is_type_word typed_adds (λ t. refl)

pub inline_tallied : (w : Token → Word) (s : Specifiers) (t : Tally)
    → (tallied w t s).inline ≡ (t.inline || some_word w is_inline s)
inline_tallied = flagged (λ t. t.inline) is_inline inline_adds (λ t. refl)

named_stays : (word : Word) (t : Tally) → (with_word word t).named ≡ t.named
named_stays (Fixed text) t = refl
named_stays Ordinary t = refl
named_stays Typedef t = refl
named_stays Number t = refl
named_stays String t = refl

module _ (w : Token → Word) where
  named_many : (s : Specifiers) (t : Tally) → t.named ≡ named.Many → (tallied w t s).named ≡ named.Many
  named_many NoSpecifiers t e = e
  named_many (trees.Word token rest) t e = named_many rest (with_word (w token) t) (named_stays (w token) t ∙ e)
  named_many (TypedefName token rest) t e = named_many rest (with_named t) (ap and_named e)
  named_many (Tagged keyword tag rest) t e = named_many rest (with_named t) (ap and_named e)
  named_many (Struct keyword tag opening m closing rest) t e = named_many rest (with_named t) (ap and_named e)
  named_many (Enum keyword tag opening m closing rest) t e = named_many rest (with_named t) (ap and_named e)

  named_one : (s : Specifiers) (t : Tally) → t.named ≡ named.One
      → (tallied w t s).named ≡ (if has_named s then named.Many else named.One)
  named_one NoSpecifiers t e = e
  named_one (trees.Word token rest) t e = named_one rest (with_word (w token) t) (named_stays (w token) t ∙ e)
  named_one (TypedefName token rest) t e = named_many rest (with_named t) (ap and_named e)
  named_one (Tagged keyword tag rest) t e = named_many rest (with_named t) (ap and_named e)
  named_one (Struct keyword tag opening m closing rest) t e = named_many rest (with_named t) (ap and_named e)
  named_one (Enum keyword tag opening m closing rest) t e = named_many rest (with_named t) (ap and_named e)

  turned : (b : Bool) → (if b then named.Many else named.One) ≡ (if not b then named.One else named.Many)
  turned true = refl
  turned false = refl

  pub named_tallied : (s : Specifiers) (t : Tally) → t.named ≡ named.Nothing
      → (tallied w t s).named
      ≡ (if has_named s then (if has_one_named s then named.One else named.Many) else named.Nothing)
  named_tallied NoSpecifiers t e = e
  named_tallied (trees.Word token rest) t e =
      named_tallied rest (with_word (w token) t) (named_stays (w token) t ∙ e)
  named_tallied (TypedefName token rest) t e =
      named_one rest (with_named t) (ap and_named e) ∙ turned (has_named rest)
  named_tallied (Tagged keyword tag rest) t e =
      named_one rest (with_named t) (ap and_named e) ∙ turned (has_named rest)
  named_tallied (Struct keyword tag opening m closing rest) t e =
      named_one rest (with_named t) (ap and_named e) ∙ turned (has_named rest)
  named_tallied (Enum keyword tag opening m closing rest) t e =
      named_one rest (with_named t) (ap and_named e) ∙ turned (has_named rest)
