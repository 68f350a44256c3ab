-- Fixed words are the same where their texts are.
use Rattle.std.proofs.Common.{◌≡◌, Bool, true, false, refl, ap, sym, ◌∙◌}
use Rattle.std.specs.Prelude.{Some}
use Rattle.std.specs.Str.{bytes_eq}
use Rattle.std.proofs.lemmas.Slice.Eq.{bytes_eq-Decides}
use Rattle.ck_grammar.specs.Candidates.{word_of}
use Rattle.ck_grammar.specs.FixedWords.{spelling}
use Rattle.ck_grammar.specs.declared.words.FixedWord.{FixedWord}
use Rattle.ck_grammar.specs.declared.words.FixedWord.TheVariants as word

each_found : (found : FixedWord) → word_of (spelling found) ≡ Some found
each_found word.Auto = refl
each_found _ = refl

pub same_word : (a b : FixedWord) → bytes_eq (spelling a) (spelling b) ≡ true → a ≡ b
same_word a b h =
    let some : Some a ≡ Some b =
    sym (each_found a) ∙ ap word_of ((bytes_eq-Decides (spelling a) (spelling b)).0 h) ∙ each_found b in
    cc some

pub equal_texts : (a b : FixedWord) → a ≡ b → bytes_eq (spelling a) (spelling b) ≡ true
equal_texts a b e = (bytes_eq-Decides (spelling a) (spelling b)).1 (ap spelling e)

-- two flags, each of which holds where the other does
pub same_flag : (p q : Bool) → (p ≡ true → q ≡ true) → (q ≡ true → p ≡ true) → p ≡ q
same_flag true q h k = sym (h refl)
same_flag false true h k = k refl
same_flag false false h k = refl
