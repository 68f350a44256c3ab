-- A file that is being read: its bytes, its tokens, and the names that are typedef names now.
use Rattle.std.specs.Prelude.{◌≡◌, ℕ, ◌-◌, suc, length, slice_get, Bool, false, List, [], ◌∷◌, drop, Option, Some}
use Rattle.std.specs.Prelude.{None, if◌then◌else◌}
use Rattle.ck_base.specs.declared.refusals.Spot.{Spot}
use Rattle.ck_base.specs.declared.refusals.Spot.TheVariants as spots
use Rattle.ck_base.specs.declared.spans.Span.{Span}
use Rattle.ck_base.specs.declared.tokens.Token.{Token}
use Rattle.ck_grammar.specs.FixedWords.{spelling}
use Rattle.ck_grammar.specs.Phrases.{phrase}
use Rattle.ck_grammar.specs.Readers.{Reader, onto}
use Rattle.ck_grammar.specs.ReadingExpressions.{neighbours}
use Rattle.ck_grammar.specs.Words.{Word, Fixed, is_text, word_of, sort, lead, follow}
use Rattle.ck_grammar.specs.declared.classes.Follow.{Follow}
use Rattle.ck_grammar.specs.declared.classes.Lead.{Lead}
use Rattle.ck_grammar.specs.declared.classes.Phrase.{Phrase}
use Rattle.ck_grammar.specs.declared.classes.Sort.{Sort}
use Rattle.ck_grammar.specs.declared.words.FixedWord.{FixedWord}

pub record SourceView : Type 0 where
  pub bytes : List ℕ
  pub typedefs : List (List ℕ)
  pub tokens : List Token

-- what the grammar sees of a token now
abbrev pub words : SourceView → Token → Word
words s = word_of s.bytes s.typedefs

-- what a token is to a declaration, at the start of an operand, after an operand, at the start of a statement
abbrev pub sort_in : SourceView → Token → Sort
sort_in s t = sort (words s t)

abbrev pub lead_in : SourceView → Token → Lead
lead_in s t = lead (words s t)

abbrev pub follow_in : SourceView → Token → Follow
follow_in s t = follow (words s t)

abbrev pub phrase_in : SourceView → Token → Phrase
phrase_in s t = phrase (words s t)

-- a keyword or punctuator of this text comes first
abbrev pub text_at : (Token → Word) → List ℕ → List Token → Bool
text_at w text [] = false
text_at w text (t ∷ ts) = is_text text (w t)

-- the keyword or punctuator of this text
abbrev pub text_mark : (Token → Word) → List ℕ → Reader Token
text_mark w text [] = None
text_mark w text (t ∷ ts) = if is_text text (w t) then Some (t, ts) else None

-- the first token is this fixed word, or it is none
abbrev pub IsFixedFirst : (Token → Word) → List Token → Option FixedWord → Type 0
IsFixedFirst w tokens (Some found) = (t : Token) (ts : List Token) → tokens ≡ t ∷ ts → w t ≡ Fixed (spelling found)
IsFixedFirst w tokens None =
    (t : Token) (ts : List Token) (found : FixedWord) → tokens ≡ t ∷ ts → w t ≡ Fixed (spelling found) → ⊥

-- the string literal at a place comes before those that neighbour it, or none is there
abbrev pub LiteralAt : (Token → Word) → List Token → ℕ → Option Token → Type 0
LiteralAt w tokens at (Some t) = neighbours w (drop at tokens) ≡ onto (◌∷◌ t) (neighbours w (drop (suc at) tokens))
LiteralAt w tokens at None = neighbours w (drop at tokens) ≡ ([], drop at tokens)

-- the end of a token, as a span of no bytes
abbrev pub end_of : Token → Span
end_of t = record { file = t.span.file; start = t.span.end; end = t.span.end }

-- a token where there is one, else the end of the last token, nowhere where there is none
abbrev pub spot_by : Option Token → Option Token → Spot
spot_by (Some t) last = spots.At t.span
spot_by None (Some last) = spots.At (end_of last)
spot_by None None = spots.Nowhere

-- the spot of a place of the tokens
abbrev pub spot_at : List Token → ℕ → Spot
spot_at tokens at = spot_by (slice_get tokens at) (slice_get tokens (length tokens - 1))

-- the spot of some place
abbrev pub IsFaultSpot : List Token → Spot → Type 0
IsFaultSpot tokens spot = (at : ℕ) × (spot ≡ spot_at tokens at)
