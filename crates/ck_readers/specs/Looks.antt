-- What a source keeps of each token, and which names are typedef names.
use Rattle.std.specs.Prelude.{◌≡◌, ℕ, ◌≤◌, suc, Bool, List, [], ◌∷◌, ◌++◌, drop, length, map, slice_get, Option, Some}
use Rattle.std.specs.Prelude.{None}
use Rattle.std.specs.Borrow.{Bor}
use Rattle.ck_base.specs.TokenText.{text_of}
use Rattle.ck_base.specs.declared.tokens.Token.{Token}
use Rattle.ck_base.specs.declared.tokens.TokenKind.{TokenKind}
use Rattle.ck_base.specs.declared.tokens.TokenKind.TheVariants as kinds
use Rattle.ck_grammar.specs.FixedWords.{spelling}
use Rattle.ck_grammar.specs.Words.{Word, word_by, is_one_of, Ordinary, Typedef, Fixed, Number, String}
use Rattle.ck_grammar.specs.declared.words.FixedWord.{FixedWord}
use Rattle.ck_readers.specs.declared.seen.Seen.{Seen}
use Rattle.ck_readers.specs.declared.seen.Seen.TheVariants as seen
use Rattle.ck_readers.specs.declared.looks.Look.{Look}
use Rattle.ck_readers.specs.declared.looks.Look.TheVariants as looks

-- a text of no fixed word
abbrev pub IsUnspelled : List ℕ → Type 0
IsUnspelled text = (found : FixedWord) → text ≡ spelling found → ⊥

-- the word as the code has it
abbrev pub IsSeen : Word → Seen → Type 0
IsSeen word (seen.Fixed found) = word ≡ Fixed (spelling found)
IsSeen word seen.Ordinary = word ≡ Ordinary
IsSeen word seen.Typedef = word ≡ Typedef
IsSeen word seen.Constant = word ≡ Number
IsSeen word seen.Text = word ≡ String
IsSeen word seen.Other = (text : List ℕ) × (word ≡ Fixed text) × IsUnspelled text

-- what is kept tells the word of a token of this kind and text, but for whether a name is a typedef name
abbrev pub IsLook : List (List ℕ) → TokenKind → List ℕ → Look → Type 0
IsLook names kind text (looks.Fixed found) =
    (typedefs : List (List ℕ)) → word_by typedefs kind text ≡ Fixed (spelling found)
IsLook names kind text (looks.Name number) = (kind ≡ kinds.Word) × (slice_get names number ≡ Some text)
IsLook names kind text looks.Constant = (typedefs : List (List ℕ)) → word_by typedefs kind text ≡ Number
IsLook names kind text looks.Text = (typedefs : List (List ℕ)) → word_by typedefs kind text ≡ String
IsLook names kind text looks.Other =
    ((typedefs : List (List ℕ)) → word_by typedefs kind text ≡ Fixed text)
    × IsUnspelled text

abbrev pub AreLooks : List ℕ → List (List ℕ) → List Token → List Look → Type 0
AreLooks bytes names [] [] = Unit {0}
AreLooks bytes names (t ∷ ts) (l ∷ ls) = IsLook names t.kind (text_of bytes t) l × AreLooks bytes names ts ls
AreLooks bytes names _ _ = ⊥

-- names with the same bytes have the same number
abbrev pub AreDistinct : List (List ℕ) → Type 0
AreDistinct names = (i j : ℕ) (text : List ℕ) → slice_get names i ≡ Some text → slice_get names j ≡ Some text → i ≡ j

pub record IsLooked (bytes : List ℕ) (tokens : List Token) (names : List (List ℕ)) (looked : List Look)
    (types : List Bool) (typedefs : List (List ℕ)) : Type 0 where
  pub looks : AreLooks bytes names tokens looked
  pub types_are : types ≡ map (is_one_of typedefs) names
  pub distinct : AreDistinct names

-- the names that the keys refer to
abbrev pub names_of : List (Bor (List ℕ)) → List (List ℕ)
names_of keys = map (λ key. key.now) keys

-- names were added, or none
pub record Extends (old new : List (List ℕ)) : Type 0 where
  pub more : List (List ℕ)
  pub is : new ≡ old ++ more

-- the token at a place, its word, and the place after it
pub record IsSeenAt (w : Token → Word) (tokens : List Token) (at : ℕ) (found : Token × Seen × ℕ) : Type 0 where
  pub token : drop at tokens ≡ found.0 ∷ drop found.2 tokens
  pub told : IsSeen (w found.0) found.1
  pub next : found.2 ≡ suc at
  pub within : found.2 ≤ length tokens

-- nothing at the end
abbrev pub SeenAt : (Token → Word) → List Token → ℕ → Option (Token × Seen × ℕ) → Type 0
SeenAt w tokens at None = drop at tokens ≡ []
SeenAt w tokens at (Some found) = IsSeenAt w tokens at found
