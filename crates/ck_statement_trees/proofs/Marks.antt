-- What it means that a mark or an identifier comes, or doesn't.
use Rattle.std.proofs.Common.{◌≡◌, ℕ, Bool, true, false, List, [], ◌∷◌, refl, ap, sym, ◌∙◌}
use Rattle.std.specs.Prelude.{Some, None, if◌then◌else◌}
use Rattle.ck_base.specs.declared.tokens.Token.{Token}
use Rattle.ck_grammar.specs.Readers.{Read, identifier}
use Rattle.ck_grammar.specs.Words.{Word, is_text, is_identifier}
use Rattle.ck_readers.specs.SourceView.{text_at, text_mark}

-- a token and the others after it, where it is one that is wanted
abbrev pub taken_if : Bool → Token → List Token → Read Token
taken_if wanted t ts = if wanted then Some (t, ts) else None

-- the first token is so
pub record IsFirst (wanted : Token → Bool) (ts : List Token) (x : Token × List Token) : Type 0 where
  pub is : ts ≡ x.0 ∷ x.1
  pub told : wanted x.0 ≡ true

first_by : (wanted : Token → Bool) (t : Token) (ts : List Token) (x : Token × List Token) (b : Bool) → wanted t ≡ b
    → taken_if b t ts ≡ Some x → IsFirst wanted (t ∷ ts) x
first_by wanted t ts x true e h =
    let same : (t, ts) ≡ x = cc in
    record { is = ap (λ y. y.0 ∷ y.1) same; told = ap (λ y. wanted y.0) (sym same) ∙ e }
first_by wanted t ts x false e h = absurd (cc)

not_taken : (b : Bool) (t : Token) (ts : List Token) → taken_if b t ts ≡ None → b ≡ false
not_taken true t ts h = absurd (cc)
not_taken false t ts h = refl

module _ (w : Token → Word) where
  pub marked : (text : List ℕ) (ts : List Token) (x : Token × List Token) → text_mark w text ts ≡ Some x
      → IsFirst (λ t. is_text text (w t)) ts x
  marked text [] x h = absurd (cc)
  marked text (t ∷ ts) x h = first_by (λ u. is_text text (w u)) t ts x (is_text text (w t)) refl h

  pub unmarked : (text : List ℕ) (ts : List Token) → text_mark w text ts ≡ None → text_at w text ts ≡ false
  unmarked text [] h = refl
  unmarked text (t ∷ ts) h = not_taken (is_text text (w t)) t ts h

  pub named : (ts : List Token) (x : Token × List Token) → identifier w ts ≡ Some x
      → IsFirst (λ t. is_identifier (w t)) ts x
  named [] x h = absurd (cc)
  named (t ∷ ts) x h = first_by (λ u. is_identifier (w u)) t ts x (is_identifier (w t)) refl h
