-- Each fixed word is found by its text, and no text is found for another.
use Rattle.std.proofs.Common.{◌≡◌, ℕ, Bool, true, false, cond, List, Option, Some, None, refl, sym, ap, ◌∙◌, ◌⊎◌}
use Rattle.std.proofs.Common.{inl, inr}
use Rattle.std.specs.Str.{bytes_eq}
use Rattle.std.proofs.lemmas.Slice.Eq.{bytes_eq-Decides}
use Rattle.ck_base.specs.declared.tokens.TokenKind.{TokenKind}
use Rattle.ck_base.specs.declared.tokens.TokenKind.TheVariants as kinds
use Rattle.ck_grammar.specs.Candidates.{candidate, if_spelled, word_of}
use Rattle.ck_grammar.specs.FixedWords.{spelling, IsFixedWord}
use Rattle.ck_grammar.specs.Words.{Word, Fixed}
use Rattle.ck_grammar.specs.declared.words.FixedWord.{FixedWord}
use Rattle.ck_grammar.specs.declared.words.FixedWord.TheVariants as word

-- this is the fixed word of the text, or the text is that of none
abbrev pub Found : List ℕ → Option FixedWord → Type 0
Found text None = (found : FixedWord) → text ≡ spelling found → ⊥
Found text (Some found) = text ≡ spelling found

each_found : (found : FixedWord) → word_of (spelling found) ≡ Some found
each_found word.Auto = refl
each_found _ = refl

not_none : (found : FixedWord) → None ≡ Some found → ⊥
not_none found e = cc

missed : (text : List ℕ) → word_of text ≡ None → (found : FixedWord) → text ≡ spelling found → ⊥
missed text e found same = not_none found (sym e ∙ ap word_of same ∙ each_found found)

found_if : (text : List ℕ) (found : FixedWord) (b : Bool) → bytes_eq (spelling found) text ≡ b
    → word_of text ≡ cond b (Some found) None → Found text (cond b (Some found) None)
found_if text found true h e = sym ((bytes_eq-Decides (spelling found) text).0 h)
found_if text found false h e = missed text e

found_by : (text : List ℕ) (at_most : Option FixedWord) → candidate text ≡ at_most
    → Found text (if_spelled text at_most)
found_by text None e = missed text (ap (if_spelled text) e)
found_by text (Some found) e =
    found_if text found (bytes_eq (spelling found) text) refl (ap (if_spelled text) e)

same_fixed : (text other : List ℕ) → Fixed text ≡ Fixed other → text ≡ other
same_fixed text other e = cc

-- what is found is the token's fixed word
fixed_by : (kind : TokenKind) (text : List ℕ) (found : Option FixedWord)
    → (kind ≡ kinds.Key) ⊎ (kind ≡ kinds.Mark) → Found text found → IsFixedWord kind text found
fixed_by kind text None (inl is) h = rw is (λ typedefs found e. h found (same_fixed text (spelling found) e))
fixed_by kind text None (inr is) h = rw is (λ typedefs found e. h found (same_fixed text (spelling found) e))
fixed_by kind text (Some found) (inl is) h = rw is (λ typedefs. ap Fixed h)
fixed_by kind text (Some found) (inr is) h = rw is (λ typedefs. ap Fixed h)

pub fixed_word_found : (kind : TokenKind) (text : List ℕ) → (kind ≡ kinds.Key) ⊎ (kind ≡ kinds.Mark)
    → IsFixedWord kind text (word_of text)
fixed_word_found kind text is = fixed_by kind text (word_of text) is (found_by text (candidate text) refl)
