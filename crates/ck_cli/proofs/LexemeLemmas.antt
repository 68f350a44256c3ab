-- A token's text and what it is: each fixes the other.
use Rattle.std.proofs.Common.{◌≡◌, ℕ, Bool, true, false, cond, List, [], Option, Some, None, refl, sym, ap, ◌∙◌, ◌≢◌}
use Rattle.std.specs.Prelude.{codes, find}
use Rattle.std.specs.Option.{option_map_or}
use Rattle.std.specs.Str.{bytes_eq}
use Rattle.std.proofs.lemmas.Slice.Eq.{bytes_eq-Decides}
use Rattle.ck_cli.specs.declared.calls.KernelCall.{KernelCall}
use Rattle.ck_cli.specs.declared.calls.KernelCall.TheVariants.{Init, Disable, Suspend, Enable, Lock, Unlock}
use Rattle.ck_cli.specs.declared.lexemes.Lexeme.{Lexeme}
use Rattle.ck_cli.specs.declared.lexemes.Lexeme.TheVariants.{Void, Int, Main, Kernel, Open, Close, LeftBrace}
use Rattle.ck_cli.specs.declared.lexemes.Lexeme.TheVariants.{RightBrace, Semicolon, Other}
use Rattle.ck_cli.specs.Calls.{name_of, every_call}
use Rattle.ck_cli.specs.Lexemes.{lexeme_of}

-- the text of a token of the form
abbrev pub word_of : Lexeme → List ℕ
word_of Void = codes "void"
word_of Int = codes "int"
word_of Main = codes "main"
word_of (Kernel call) = name_of call
word_of Open = codes "("
word_of Close = codes ")"
word_of LeftBrace = codes "{"
word_of RightBrace = codes "}"
word_of Semicolon = codes ";"
word_of Other = []

pub lexeme_of-name : (call : KernelCall) → lexeme_of (name_of call) ≡ Kernel call
lexeme_of-name Init = refl
lexeme_of-name _ = refl

-- this is the lexeme's text, where it is one of the form
Fits : Lexeme → List ℕ → Type 0
Fits lexeme text = lexeme ≢ Other → text ≡ word_of lexeme

fits_first : (b : Bool) (this next : Lexeme) (text : List ℕ)
    → (b ≡ true → text ≡ word_of this) → Fits next text → Fits (cond b this next) text
unfolding Fits
fits_first true this next text holds rest = λ _. holds refl
fits_first false this next text holds rest = rest

FitsCall : Option KernelCall → List ℕ → Type 0
FitsCall found text = Fits (option_map_or Kernel found Other) text

fits_call : (b : Bool) (call : KernelCall) (found : Option KernelCall) (text : List ℕ)
    → (b ≡ true → text ≡ name_of call) → FitsCall found text → FitsCall (cond b (Some call) found) text
unfolding FitsCall Fits
fits_call true call found text holds rest = λ _. holds refl
fits_call false call found text holds rest = rest

fits_none : (text : List ℕ) → FitsCall None text
unfolding FitsCall Fits
fits_none text = λ other. absurd (other refl)

same : (text word : List ℕ) → bytes_eq text word ≡ true → text ≡ word
same text word e = (bytes_eq-Decides text word).0 e

named : (text : List ℕ) (call : KernelCall) → bytes_eq (name_of call) text ≡ true → text ≡ name_of call
named text call e = sym (same (name_of call) text e)

fits_calls : (text : List ℕ) → FitsCall (find (λ call. bytes_eq (name_of call) text) every_call) text
fits_calls text =
    fits_call _ Init _ text (named text Init)
    (fits_call _ Disable _ text (named text Disable)
    (fits_call _ Suspend _ text (named text Suspend)
    (fits_call _ Enable _ text (named text Enable)
    (fits_call _ Lock _ text (named text Lock)
    (fits_call _ Unlock _ text (named text Unlock) (fits_none text))))))

pub lexeme_of-text : (text : List ℕ) → lexeme_of text ≢ Other → text ≡ word_of (lexeme_of text)
unfolding Fits FitsCall
lexeme_of-text text =
    fits_first _ Void _ text (same text (codes "void"))
    (fits_first _ Int _ text (same text (codes "int"))
    (fits_first _ Main _ text (same text (codes "main"))
    (fits_first _ Open _ text (same text (codes "("))
    (fits_first _ Close _ text (same text (codes ")"))
    (fits_first _ LeftBrace _ text (same text (codes "{"))
    (fits_first _ RightBrace _ text (same text (codes "}"))
    (fits_first _ Semicolon _ text (same text (codes ";"))
    (fits_calls text))))))))

pub word_of-lexeme : (text : List ℕ) (lexeme : Lexeme)
    → lexeme_of text ≡ lexeme → lexeme ≢ Other → text ≡ word_of lexeme
word_of-lexeme text lexeme e known = lexeme_of-text text (λ o. known (sym e ∙ o)) ∙ ap word_of e
