-- Which specifiers go together (C99 6.7.1, 6.7.2, 6.7.2.1, 6.7.5.3, 6.7.6).
use Rattle.std.specs.Prelude.{ℕ, ◌+◌, Bool, true, false, not, ◌&&◌, ◌||◌, ◌==◌, nat_le, List, [], ◌∷◌, codes}
use Rattle.std.specs.Prelude.{if◌then◌else◌}
use Rattle.std.specs.Str.{bytes_eq}
use Rattle.ck_base.specs.declared.tokens.Token.{Token}
use Rattle.ck_grammar.specs.Trees.{Specifiers, NoSpecifiers, TypedefName, Tagged, Struct, Enum}
use Rattle.ck_grammar.specs.Trees as trees
use Rattle.ck_grammar.specs.Words.{Word, Fixed, is_text, words, sort, Sort, Storage, Inline, TypeWord}

-- where specifiers are: in a type name or a member, in a parameter, in a declaration in a block or in one at file scope
pub data Place : Type 0 where
  InType : Place
  InParameter : Place
  InBlock : Place
  InFile : Place

abbrev pub is_storage : Sort → Bool
is_storage Storage = true
is_storage _ = false

abbrev pub is_inline : Sort → Bool
is_inline Inline = true
is_inline _ = false

abbrev pub is_type_word : Sort → Bool
is_type_word TypeWord = true
is_type_word _ = false

abbrev pub is_storage_word : Word → Bool
is_storage_word word = is_storage (sort word)

-- some specifier is a typedef name, a struct or an enum
abbrev pub has_named : Specifiers → Bool
has_named NoSpecifiers = false
has_named (trees.Word t rest) = has_named rest
has_named _ = true

-- just one is
abbrev pub has_one_named : Specifiers → Bool
has_one_named NoSpecifiers = false
has_one_named (trees.Word t rest) = has_one_named rest
has_one_named (TypedefName t rest) = not (has_named rest)
has_one_named (Tagged keyword t rest) = not (has_named rest)
has_one_named (Struct keyword tag opening m closing rest) = not (has_named rest)
has_one_named (Enum keyword tag opening m closing rest) = not (has_named rest)

-- the combinations of type words in 6.7.2, each of which may come in any order
abbrev pub combinations : List (List (List ℕ))
combinations =
    words "void"
    ∷ words "char"
    ∷ words "signed char"
    ∷ words "unsigned char"
    ∷ words "short" ∷ words "signed short" ∷ words "short int" ∷ words "signed short int"
    ∷ words "unsigned short" ∷ words "unsigned short int"
    ∷ words "int" ∷ words "signed" ∷ words "signed int"
    ∷ words "unsigned" ∷ words "unsigned int"
    ∷ words "long" ∷ words "signed long" ∷ words "long int" ∷ words "signed long int"
    ∷ words "unsigned long" ∷ words "unsigned long int"
    ∷ words "long long" ∷ words "signed long long" ∷ words "long long int" ∷ words "signed long long int"
    ∷ words "unsigned long long" ∷ words "unsigned long long int"
    ∷ words "_Bool"
    ∷ []

abbrev pub one_if : Bool → ℕ
one_if b = if b then 1 else 0

-- how often a text is among these
abbrev pub times : List (List ℕ) → List ℕ → ℕ
times [] text = 0
times (other ∷ rest) text = one_if (bytes_eq other text) + times rest text

-- these have each type word as often as those
abbrev pub have_same : List (List ℕ) → List (List ℕ) → List (List ℕ) → Bool
have_same [] these those = true
have_same (text ∷ texts) these those = times these text == times those text && have_same texts these those

abbrev pub have_same_type_words : List (List ℕ) → List (List ℕ) → Bool
have_same_type_words = have_same (words "void char short int long signed unsigned _Bool")

-- some combination is these texts
abbrev pub is_combination : List (List (List ℕ)) → List (List ℕ) → Bool
is_combination [] texts = false
is_combination (row ∷ rows) texts = have_same_type_words texts row || is_combination rows texts

-- the text of a keyword before the texts after it
abbrev pub text_before : Word → List (List ℕ) → List (List ℕ)
text_before (Fixed text) texts = text ∷ texts
text_before _ texts = texts

module _ (w : Token → Word) where
  -- how many words of the specifiers are so
  abbrev pub count : (Word → Bool) → Specifiers → ℕ
  count test NoSpecifiers = 0
  count test (trees.Word t rest) = one_if (test (w t)) + count test rest
  count test (TypedefName t rest) = count test rest
  count test (Tagged keyword t rest) = count test rest
  count test (Struct keyword tag opening m closing rest) = count test rest
  count test (Enum keyword tag opening m closing rest) = count test rest

  -- some word of the specifiers is of such a sort
  abbrev pub some_word : (Sort → Bool) → Specifiers → Bool
  some_word test NoSpecifiers = false
  some_word test (trees.Word t rest) = test (sort (w t)) || some_word test rest
  some_word test (TypedefName t rest) = some_word test rest
  some_word test (Tagged keyword t rest) = some_word test rest
  some_word test (Struct keyword tag opening m closing rest) = some_word test rest
  some_word test (Enum keyword tag opening m closing rest) = some_word test rest

  -- the texts of the words of the specifiers
  abbrev pub texts : Specifiers → List (List ℕ)
  texts NoSpecifiers = []
  texts (trees.Word t rest) = text_before (w t) (texts rest)
  texts (TypedefName t rest) = texts rest
  texts (Tagged keyword t rest) = texts rest
  texts (Struct keyword tag opening m closing rest) = texts rest
  texts (Enum keyword tag opening m closing rest) = texts rest

  -- one type: a combination of type words, or one typedef name, struct or enum and no type word (6.7.2)
  abbrev pub has_one_type : Specifiers → Bool
  has_one_type s =
      if has_named s then has_one_named s && not (some_word is_type_word s)
      else (some_word is_type_word s && is_combination combinations (texts s))

  -- storage classes and `inline`: none in a type, `register` alone in a parameter, at most one storage class in a
  -- declaration, `typedef` at file scope alone (6.7.1, 6.7.4, 6.7.5.3)
  abbrev pub storage_fits : Place → Specifiers → Bool
  storage_fits InType s = not (some_word is_storage s) && not (some_word is_inline s)
  storage_fits InParameter s =
      nat_le (count is_storage_word s) 1 && count (is_text (codes "register")) s == count is_storage_word s
      && not (some_word is_inline s)
  storage_fits InBlock s = nat_le (count is_storage_word s) 1 && count (is_text (codes "typedef")) s == 0
  storage_fits InFile s = nat_le (count is_storage_word s) 1

  abbrev pub go_together : Place → Specifiers → Bool
  go_together place s = has_one_type s && storage_fits place s
