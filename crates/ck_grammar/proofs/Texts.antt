-- Which texts a word is not, and that typedef names don't change keywords and marks.
use Rattle.std.proofs.Common.{◌≡◌, ℕ, Bool, true, false, List, [], ◌∷◌, refl, sym, ap, ◌∙◌}
use Rattle.std.specs.Prelude.{if◌then◌else◌, codes}
use Rattle.std.specs.Str.{bytes_eq}
use Rattle.std.proofs.lemmas.Bool.{false≢true, false_from_ne_true}
use Rattle.std.proofs.lemmas.Slice.Eq.{bytes_eq-Decides}
use Rattle.ck_base.specs.declared.tokens.Token.{Token}
use Rattle.ck_base.specs.declared.tokens.TokenKind.{TokenKind}
use Rattle.ck_base.specs.declared.tokens.TokenKind.TheVariants as kinds
use Rattle.ck_base.specs.TokenText.{text_of}
use Rattle.ck_grammar.specs.Readers.{is_at}
use Rattle.ck_grammar.specs.ReadingExpressions.{begins_operand}
use Rattle.ck_grammar.specs.ReadingTypes.{begins_with}
use Rattle.ck_grammar.specs.Words.{begins_lead, is_text, Word, Ordinary, Typedef, Number, String, Fixed, sort, sort_by}
use Rattle.ck_grammar.specs.Words.{begins_specifiers, is_identifier, is_one_of, lead, lead_by, word_by, word_of}
use Prim.Native.String.{String as Line}

-- a word that a test tells from a text is not this text
pub other_word : (test : Word → Bool) (word : Word) (text : List ℕ) → test word ≡ true → test (Fixed text) ≡ false
    → is_text text word ≡ false
other_word test Ordinary text holds fails = refl
other_word test Typedef text holds fails = refl
other_word test Number text holds fails = refl
other_word test String text holds fails = refl
other_word test (Fixed other) text holds fails =
    false_from_ne_true (bytes_eq other text) (λ e. let same : other ≡ text = (bytes_eq-Decides other text).0 e in
    false≢true (sym fails ∙ ap (λ x. test (Fixed x)) (sym same) ∙ holds))

pub name_comes_not : (w : Token → Word) (t : Token) (ts : List Token) (text : Line) → is_identifier (w t) ≡ true
    → is_at w text (t ∷ ts) ≡ false
name_comes_not w t ts text h = other_word is_identifier (w t) (codes text) h refl

-- where an operand begins, no text comes that begins none
pub operand_comes_not : (w : Token → Word) (ts : List Token) (text : Line) → begins_operand w ts ≡ true
    → begins_lead (lead_by (codes text)) ≡ false → is_at w text ts ≡ false
operand_comes_not w [] text h fails = refl
operand_comes_not w (t ∷ ts) text h fails = other_word (λ x. begins_lead (lead x)) (w t) (codes text) h fails

-- where specifiers begin, no text comes that begins none
pub specifiers_come_not : (w : Token → Word) (ts : List Token) (text : Line)
    → begins_with w begins_specifiers ts ≡ true → begins_specifiers (sort_by (codes text)) ≡ false
    → is_at w text ts ≡ false
specifiers_come_not w [] text h fails = refl
specifiers_come_not w (t ∷ ts) text h fails = other_word (λ x. begins_specifiers (sort x)) (w t) (codes text) h fails

name_not_fixed : (b : Bool) (text : List ℕ) → (if b then Typedef else Ordinary) ≡ Fixed text → ⊥
name_not_fixed true text h = cc
name_not_fixed false text h = cc

fixed_by : (a b : List (List ℕ)) (kind : TokenKind) (text other : List ℕ) → word_by a kind text ≡ Fixed other
    → word_by b kind text ≡ Fixed other
fixed_by a b kinds.Word text other h = absurd (name_not_fixed (is_one_of a text) other h)
fixed_by a b kinds.Key text other h = h
fixed_by a b kinds.Number text other h = h
fixed_by a b kinds.Char text other h = h
fixed_by a b kinds.Text text other h = h
fixed_by a b kinds.Mark text other h = h

-- keywords and marks are the same words to other typedef names
pub fixed_stays : (bytes : List ℕ) (a b : List (List ℕ)) (t : Token) (text : List ℕ) → word_of bytes a t ≡ Fixed text
    → word_of bytes b t ≡ Fixed text
fixed_stays bytes a b t text h = fixed_by a b t.kind (text_of bytes t) text h
