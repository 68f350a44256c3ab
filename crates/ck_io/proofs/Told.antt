-- What a folder tells of a file that it has.
use Rattle.std.proofs.Common.{[], ◌∷◌, ◌≡◌, ◌⊎◌, inl, inr, ℕ, List, Bool, true, false, cond, Option, Some, None, IsSome}
use Rattle.std.proofs.Common.{IfSome, refl, arith}
use Rattle.std.specs.Prelude.{Contains}
use Rattle.std.specs.Str.{bytes_eq}
use Rattle.std.proofs.lemmas.Slice.Eq.{bytes_eq-Decides}
use Rattle.std.proofs.lemmas.List.Elements.{Contains-append_cases, All-contains, All-cons, All-nil}
use Rattle.ck_io.specs.Environment.{Files, names_of, bytes_of}

-- the one element of a list
only : (x y : List ℕ) → Contains (x ∷ []) y → x ≡ y
only x y has = All-contains (λ z. x ≡ z) (x ∷ []) y (All-cons (λ z. x ≡ z) x [] refl (All-nil (λ z. x ≡ z))) has

-- one of two is there
some_either : (b : Bool) (x : List ℕ) (o : Option (List ℕ)) → (b ≡ true) ⊎ IsSome o → IsSome (cond b (Some x) o)
some_either true x o h = refl
some_either false x o (inl e) = cc
some_either false x o (inr s) = s

-- a file of the folder has bytes
pub has_bytes : (files : Files) (name : List ℕ) → Contains (names_of files) name → IsSome (bytes_of files name)
has_bytes [] name h = absurd (omega arith)
has_bytes (f ∷ files) name h = some_either (bytes_eq f.name name) f.bytes (bytes_of files name)
    (elim (Contains-append_cases (f.name ∷ []) (names_of files) name h) [
      | inl first ↦ inl ((bytes_eq-Decides f.name name).1 (only f.name name first))
      | inr later ↦ inr (has_bytes files name later)
    ])

-- what follows of any bytes from two facts
pub if_some-both : (o : Option (List ℕ)) (P Q R : List ℕ → Type 0)
    → ((x : List ℕ) → P x → Q x → R x) → IfSome o P → IfSome o Q → IfSome o R
if_some-both None P Q R f p q = tt
if_some-both (Some x) P Q R f p q = f x p q
