-- Tokens stop being a file of the form at one offset, and at none where they are one.
use Rattle.std.proofs.Common.{◌≡◌, ℕ, zero, suc, ◌+◌, ◌<◌, ◌≤◌, List, [], ◌∷◌, take, drop, refl, sym, ap, ◌∙◌, subst}
use Rattle.std.proofs.Common.{arith}
use Rattle.std.proofs.lemmas.List.{append-nil, map-append, take-append-drop}
use Rattle.ck_base.specs.declared.tokens.Token.{Token}
use Rattle.ck_base.specs.TokenText.{text_of}
use Rattle.ck_cli.specs.FileForm.{FileForm, Spells, texts_of, token_start}
use Rattle.ck_cli.specs.Stray.{CanGoOn, IsStray, at_token, at_end}
use Rattle.ck_cli.proofs.FormPrefixes.{CanGoOn-prefix}

fewer : (bytes : List ℕ) (tokens : List Token) (n : ℕ)
    → CanGoOn (texts_of bytes tokens) → CanGoOn (texts_of bytes (take n tokens))
fewer bytes tokens n can =
    CanGoOn-prefix (texts_of bytes (take n tokens)) (texts_of bytes (drop n tokens))
    (subst CanGoOn (ap (texts_of bytes) (sym (take-append-drop n tokens)) ∙ map-append (text_of bytes)
    (take n tokens) (drop n tokens)) can)

take-fewer : (n m : ℕ) (tokens : List Token) → n ≤ m → take n (take m tokens) ≡ take n tokens
take-fewer zero m tokens less = refl
take-fewer (suc n) zero tokens less = absurd (omega arith)
take-fewer (suc n) (suc m) [] less = refl
take-fewer (suc n) (suc m) (t ∷ tokens) less = ap (λ r. t ∷ r) (take-fewer n m tokens (omega arith))

before : (bytes : List ℕ) (tokens : List Token) (n m : ℕ)
    → n < m → CanGoOn (texts_of bytes (take m tokens)) → CanGoOn (texts_of bytes (take (n + 1) tokens))
before bytes tokens n m less can =
    subst (λ ts. CanGoOn (texts_of bytes ts)) (take-fewer (n + 1) m tokens (omega arith))
    (fewer bytes (take m tokens) (n + 1) can)

same_index : (bytes : List ℕ) (tokens : List Token) (n m : ℕ)
    → CanGoOn (texts_of bytes (take n tokens)) → (CanGoOn (texts_of bytes (take (n + 1) tokens)) → ⊥)
    → CanGoOn (texts_of bytes (take m tokens)) → (CanGoOn (texts_of bytes (take (m + 1) tokens)) → ⊥) → n ≡ m
same_index bytes tokens n m can_n not_n can_m not_m =
    let no_less : n < m → ⊥ = λ less. not_n (before bytes tokens n m less can_m) in
    let no_more : m < n → ⊥ = λ more. not_m (before bytes tokens m n more can_n) in
    omega (arith, no_less, no_more)

pub one_stray : (bytes : List ℕ) (tokens : List Token) (a b : ℕ)
    → IsStray bytes tokens a → IsStray bytes tokens b → a ≡ b
one_stray bytes tokens _ _ (at_token n within can_n not_n) (at_token m within_m can_m not_m) =
    ap (token_start tokens) (same_index bytes tokens n m can_n not_n can_m not_m)
one_stray bytes tokens _ _ (at_token n within can_n not_n) (at_end can none) =
    absurd (not_n (fewer bytes tokens (n + 1) can))
one_stray bytes tokens _ _ (at_end can none) (at_token n within can_n not_n) =
    absurd (not_n (fewer bytes tokens (n + 1) can))
one_stray bytes tokens _ _ (at_end can none) (at_end can_b none_b) = refl

CanGoOn-from_Spells : (bytes : List ℕ) (tokens : List Token) (form : FileForm)
    → Spells form bytes tokens → CanGoOn (texts_of bytes tokens)
CanGoOn-from_Spells bytes tokens form spells =
    record {
      form = form;
      declared = spells.declared;
      rest = [];
      spelled = append-nil (texts_of bytes tokens) ∙
          spells.texts;
    }

pub stray_or_form : (bytes : List ℕ) (tokens : List Token) (offset : ℕ) (form : FileForm)
    → IsStray bytes tokens offset → Spells form bytes tokens → ⊥
stray_or_form bytes tokens _ form (at_token n within can_n not_n) spells =
    not_n (fewer bytes tokens (n + 1) (CanGoOn-from_Spells bytes tokens form spells))
stray_or_form bytes tokens _ form (at_end can none) spells = none form spells
