-- Plain facts on tests and tables.
use Rattle.std.proofs.Common.{◌≡◌, ℕ, Bool, true, false, List, [], ◌∷◌, ◌⊎◌, inl, inr, refl, ap, ◌∙◌, ⊎_elim}
use Rattle.std.specs.Prelude.{◌&&◌, ◌||◌, ◌==◌, not}
use Rattle.std.specs.List.{list_any, list_all}
use Rattle.std.specs.Str.{bytes_eq}
use Rattle.std.proofs.lemmas.Slice.Eq.{bytes_eq-Decides}
use Rattle.std.proofs.lemmas.Bool.Decides.{Decides-eqb}

pub and-left : (a b : Bool) → (a && b) ≡ true → a ≡ true
and-left true b h = refl
and-left false b h = h

pub and-right : (a b : Bool) → (a && b) ≡ true → b ≡ true
and-right true b h = h
and-right false b h = absurd (cc)

pub and-both : (a b : Bool) → a ≡ true → b ≡ true → (a && b) ≡ true
and-both a b x y = rw (x, y) refl

pub and-not_left : (a b : Bool) → a ≡ false → (a && b) ≡ false
and-not_left a b x = rw x refl

pub and-not_right : (a b : Bool) → b ≡ false → (a && b) ≡ false
and-not_right true b x = x
and-not_right false b x = refl

pub or-either : (a b : Bool) → (a || b) ≡ true → (a ≡ true) ⊎ (b ≡ true)
or-either true b h = inl refl
or-either false b h = inr h

pub or-left : (a b : Bool) → a ≡ true → (a || b) ≡ true
or-left a b x = rw x refl

pub or-right : (a b : Bool) → b ≡ true → (a || b) ≡ true
or-right true b x = refl
or-right false b x = x

pub or-none : (a b : Bool) → a ≡ false → b ≡ false → (a || b) ≡ false
or-none a b x y = rw (x, y) refl

pub from-not : (a : Bool) → not a ≡ true → a ≡ false
from-not true h = absurd (cc)
from-not false h = refl

pub no-test : (a : Bool) → (a ≡ true → ⊥) → a ≡ false
no-test true none = absurd (none refl)
no-test false none = refl

pub either-test : (a : Bool) → (a ≡ true) ⊎ (a ≡ false)
either-test true = inl refl
either-test false = inr refl

pub eqb-same : (a b : ℕ) → (a == b) ≡ true → a ≡ b
eqb-same a b h = (Decides-eqb a b).0 h

pub same-eqb : (a b : ℕ) → a ≡ b → (a == b) ≡ true
same-eqb a b h = (Decides-eqb a b).1 h

-- what holds of each entry of a table holds of what is among them
pub among-texts : (Q : List ℕ → Bool) (text : List ℕ) (entries : List (List ℕ)) → list_all Q entries ≡ true
    → list_any (bytes_eq text) entries ≡ true → Q text ≡ true
among-texts Q text [] all found = absurd (cc)
among-texts Q text (e ∷ entries) all found =
    ⊎_elim
    (λ (same : bytes_eq text e ≡ true). ap Q ((bytes_eq-Decides text e).0 same)
    ∙ and-left (Q e) (list_all Q entries) all)
    (λ (later : list_any (bytes_eq text) entries ≡ true). among-texts Q text entries
    (and-right (Q e) (list_all Q entries) all) later)
    (or-either (bytes_eq text e) (list_any (bytes_eq text) entries) found)

pub among-bytes : (Q : ℕ → Bool) (b : ℕ) (entries : List ℕ) → list_all Q entries ≡ true
    → list_any (λ x. b == x) entries ≡ true → Q b ≡ true
among-bytes Q b [] all found = absurd (cc)
among-bytes Q b (e ∷ entries) all found =
    ⊎_elim
    (λ (same : (b == e) ≡ true). ap Q (eqb-same b e same) ∙ and-left (Q e) (list_all Q entries) all)
    (λ (later : list_any (λ x. b == x) entries ≡ true). among-bytes Q b entries
    (and-right (Q e) (list_all Q entries) all) later)
    (or-either (b == e) (list_any (λ x. b == x) entries) found)
