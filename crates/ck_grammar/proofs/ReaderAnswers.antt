-- What holds of each answer of a reader, from what holds of the answers of the readers in it.
use Rattle.std.proofs.Common.{◌≡◌, ℕ, Bool, true, false, cond, List, [], ◌∷◌, Some, None, refl, ap}
use Rattle.std.proofs.lemmas.Bool.{false≢true}
use Rattle.std.proofs.lemmas.Slice.Eq.{bytes_eq-Decides}
use Rattle.ck_base.specs.declared.tokens.Token.{Token}
use Rattle.ck_grammar.specs.Readers.{Read, Reader, ◌>>=◌, mark, or_else, ◌>>◌, identifier}
use Rattle.ck_grammar.specs.Words.{is_text, Word, Fixed, is_identifier}
use Rattle.std.specs.Prelude.{codes}
use Prim.Native.String.{String}

-- what is read, if anything is, and the tokens after it are so
abbrev pub OnRead : {A : Type 0} → (A → List Token → Type 0) → Read A → Type 0
OnRead P None = Unit {0}
OnRead P (Some x) = P x.0 x.1

abbrev pub OnPair : {A : Type 0} → (A → List Token → Type 0) → A × List Token → Type 0
OnPair P x = P x.0 x.1

-- these tokens are what a good tree spells and the tokens after it
pub record IsSpelled {A : Type 0} (Good : A → Type 0) (spells : A → List Token → List Token) (ts : List Token) (x : A)
    (r : List Token) : Type 0 where
  pub tokens_are : spells x r ≡ ts
  pub good : Good x

-- whatever the reader reads is good and spelled at the front of the tokens
abbrev pub SoundReader : {A : Type 0} → (A → Type 0) → (A → List Token → List Token) → Reader A → Type 0
SoundReader Good spells q = (ts : List Token) → OnRead (IsSpelled Good spells ts) (q ts)

abbrev pub SoundLoop : {A : Type 0} → (A → Type 0) → (A → List Token → List Token) → (List Token → A × List Token)
    → Type 0
SoundLoop Good spells go = (ts : List Token) → OnPair (IsSpelled Good spells ts) (go ts)

pub on_then : {A B : Type 0} (P : A → List Token → Type 0) (Q : B → List Token → Type 0) (x : Read A)
    (go : A × List Token → Read B)
    → OnRead P x → ((a : A) (r : List Token) → P a r → OnRead Q (go (a, r))) → OnRead Q (x >>= go)
on_then P Q None go h next = tt
on_then P Q (Some x) go h next = next x.0 x.1 h

pub by_if : {A : Type 0} (P : A → Type 0) (b : Bool) (x y : A) → (b ≡ true → P x) → (b ≡ false → P y) → P (cond b x y)
by_if P true x y first second = first refl
by_if P false x y first second = second refl

pub on_else : {A : Type 0} (P : A → List Token → Type 0) (x : A × List Token) (m : Read A) → OnPair P x → OnRead P m
    → OnPair P (or_else x m)
on_else P x None h k = h
on_else P x (Some y) h k = k

pub is_fixed : (text : List ℕ) (word : Word) → is_text text word ≡ true → word ≡ Fixed text
is_fixed text (Fixed other) h = ap Fixed ((bytes_eq-Decides other text).0 h)
is_fixed text _ h = absurd (false≢true h)

pub on_mark : {B : Type 0} (Q : B → List Token → Type 0) (w : Token → Word) (text : String) (ts : List Token)
    (go : Token × List Token → Read B)
    → ((t : Token) (r : List Token) → (t ∷ r) ≡ ts → w t ≡ Fixed (codes text) → OnRead Q (go (t, r)))
    → OnRead Q (mark w text ts >>= go)
on_mark Q w text [] go next = tt
on_mark Q w text (t ∷ ts) go next =
    by_if (λ m. OnRead Q (m >>= go)) (is_text (codes text) (w t)) (Some (t, ts)) None
    (λ h. next t ts refl (is_fixed (codes text) (w t) h)) (λ _. tt)

pub on_identifier : {B : Type 0} (Q : B → List Token → Type 0) (w : Token → Word) (ts : List Token)
    (go : Token × List Token → Read B)
    → ((t : Token) (r : List Token) → (t ∷ r) ≡ ts → is_identifier (w t) ≡ true → OnRead Q (go (t, r)))
    → OnRead Q (identifier w ts >>= go)
on_identifier Q w [] go next = tt
on_identifier Q w (t ∷ ts) go next =
    by_if (λ m. OnRead Q (m >>= go)) (is_identifier (w t)) (Some (t, ts)) None (λ h. next t ts refl h) (λ _. tt)

-- what is read only where a test holds
pub on_guard : {B : Type 0} (Q : B → List Token → Type 0) (test : Bool) (rest : Read B)
    → (test ≡ true → OnRead Q rest) → OnRead Q (test >> rest)
on_guard Q test rest next = by_if (OnRead Q) test rest None next (λ _. tt)
