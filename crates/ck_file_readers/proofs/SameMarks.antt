-- Keywords and punctuators are the same whatever the typedef names.
use Rattle.std.proofs.Common.{◌≡◌, ℕ, Bool, true, false, List, [], ◌∷◌, refl, ap, sym, ◌∙◌}
use Rattle.std.specs.Prelude.{if◌then◌else◌}
use Rattle.ck_base.specs.TokenText.{text_of}
use Rattle.ck_base.specs.declared.tokens.Token.{Token}
use Rattle.ck_base.specs.declared.tokens.TokenKind.{TokenKind}
use Rattle.ck_base.specs.declared.tokens.TokenKind.TheVariants as kinds
use Rattle.ck_file_readers.specs.Sources.{IsSameFile}
use Rattle.ck_grammar.specs.Words.{Ordinary, Typedef, is_one_of, is_text, word_by, word_of}
use Rattle.ck_readers.specs.SourceView.{SourceView, text_mark, words}
use Rattle.ck_statement_trees.proofs.Marks.{taken_if}

name_no : (text : List ℕ) (b : Bool) → is_text text (if b then Typedef else Ordinary) ≡ false
name_no text true = refl
name_no text false = refl

kind_same : (kind : TokenKind) (text other : List ℕ) (one two : List (List ℕ))
    → is_text text (word_by one kind other) ≡ is_text text (word_by two kind other)
kind_same kinds.Word text other one two = name_no text (is_one_of one other) ∙ sym (name_no text (is_one_of two other))
kind_same _ text other one two = refl

of_names : (bytes : List ℕ) (one two : List (List ℕ)) (text : List ℕ) (ts : List Token)
    → text_mark (word_of bytes one) text ts ≡ text_mark (word_of bytes two) text ts
of_names bytes one two text [] = refl
of_names bytes one two text (t ∷ ts) = ap (λ b. taken_if b t ts) (kind_same t.kind text (text_of bytes t) one two)

pub mark_same : (old new : SourceView) (text : List ℕ) (ts : List Token) → IsSameFile old new
    → text_mark (words old) text ts ≡ text_mark (words new) text ts
mark_same old new text ts same =
    of_names old.bytes old.typedefs new.typedefs text ts
    ∙ ap (λ bytes. text_mark (word_of bytes new.typedefs) text ts) (sym same.0)

pub same_then : (one two three : SourceView) → IsSameFile one two → IsSameFile two three → IsSameFile one three
same_then one two three first second = (second.0 ∙ first.0, second.1 ∙ first.1)
