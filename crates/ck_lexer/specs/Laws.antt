-- What the definitions fix: no bytes have two readings. (That each file has tokens or a first fault is what
-- `first_fault`
-- ensures.)
use Rattle.std.specs.Prelude.{◌≡◌, ℕ, List, length}
use Rattle.ck_base.specs.declared.refusals.Refusal.{Refusal}
use Rattle.ck_base.specs.declared.tokens.Token.{Token}
use Rattle.ck_lexer.specs.Cuts.{IsLexeme}
use Rattle.ck_lexer.specs.Markers.{IsMarker}
use Rattle.ck_lexer.specs.Places.{IsPlace, Place}
use Rattle.ck_lexer.specs.Tokens.{AreTokens, IsFirstFault, SpansRise}
use Rattle.ck_lexer.specs.declared.lexemes.Lexeme.{Lexeme}

-- at an offset of a file there is at most one lexeme
abbrev pub OffsetsHaveOneLexeme : Type 0
OffsetsHaveOneLexeme =
    (bytes : List ℕ) (start e f : ℕ) (p q : Lexeme) → IsLexeme bytes start e p → IsLexeme bytes start f q
    → (e ≡ f) × (p ≡ q)

-- no file has two lists of tokens
abbrev pub FilesHaveOneList : Type 0
FilesHaveOneList = (file : ℕ) (bytes : List ℕ) (ts us : List Token) → AreTokens file bytes ts
    → AreTokens file bytes us → ts ≡ us

-- the spans of a file's tokens rise within the file
abbrev pub TokensRise : Type 0
TokensRise = (file : ℕ) (bytes : List ℕ) (ts : List Token) → AreTokens file bytes ts → SpansRise 0 ts (length bytes)

-- no file has tokens and a first fault
abbrev pub ListsExcludeFaults : Type 0
ListsExcludeFaults =
    (file : ℕ) (bytes : List ℕ) (ts : List Token) (r : Refusal) → AreTokens file bytes ts → IsFirstFault file bytes r
    → ⊥

-- no file has two first faults
abbrev pub FilesHaveOneFault : Type 0
FilesHaveOneFault = (file : ℕ) (bytes : List ℕ) (r s : Refusal) → IsFirstFault file bytes r
    → IsFirstFault file bytes s → r ≡ s

-- no line is a marker of two numbers or of two names
abbrev pub LinesHaveOneMarker : Type 0
LinesHaveOneMarker = (line : List ℕ) (m n : ℕ) (a b : List ℕ) → IsMarker line m a → IsMarker line n b
    → (m ≡ n) × (a ≡ b)

-- no offset has two places
abbrev pub OffsetsHaveOnePlace : Type 0
OffsetsHaveOnePlace =
    (name bytes : List ℕ) (offset : ℕ) (p q : Place) → IsPlace name bytes offset p → IsPlace name bytes offset q → p ≡ q
