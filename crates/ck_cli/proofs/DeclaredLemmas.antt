-- Which calls the prototypes declare: those that they name.
use Rattle.std.proofs.Common.{◌≡◌, ℕ, zero, suc, ◌<◌, true, false, List, [], ◌∷◌, length, ◌⊎◌, inl, inr, refl, arith}
use Rattle.std.specs.Prelude.{Contains, slice_index_or}
use Rattle.ck_cli.specs.Reading.{declared_with, is_declared, declared_by, none_declared}
use Rattle.ck_cli.specs.declared.calls.KernelCall.{KernelCall}
use Rattle.ck_cli.specs.declared.calls.KernelCall.TheVariants.{Init, Disable, Suspend, Enable, Lock, Unlock}
use Rattle.ck_cli.specs.declared.declared.Declared.{Declared}

declared-with : (d : Declared) (added call : KernelCall)
    → is_declared (declared_with d added) call ≡ true → (added ≡ call) ⊎ (is_declared d call ≡ true)
declared-with d Init Init h = inl refl
declared-with d Disable Disable h = inl refl
declared-with d Suspend Suspend h = inl refl
declared-with d Enable Enable h = inl refl
declared-with d Lock Lock h = inl refl
declared-with d Unlock Unlock h = inl refl
declared-with d _ _ h = inr h

with-same : (d : Declared) (call : KernelCall) → is_declared (declared_with d call) call ≡ true
with-same d Init = refl
with-same d _ = refl

with-kept : (d : Declared) (added call : KernelCall)
    → is_declared d call ≡ true → is_declared (declared_with d added) call ≡ true
with-kept d Init Init h = refl
with-kept d Disable Disable h = refl
with-kept d Suspend Suspend h = refl
with-kept d Enable Enable h = refl
with-kept d Lock Lock h = refl
with-kept d Unlock Unlock h = refl
with-kept d _ _ h = h

Contains-later : (p call : KernelCall) (ps : List KernelCall) → Contains ps call → Contains (p ∷ ps) call
Contains-later p call ps found = (suc found.0, omega (arith, found.1), found.2)

Contains-first : (p call : KernelCall) (ps : List KernelCall) → p ≡ call → Contains (p ∷ ps) call
Contains-first p call ps e = (0, omega arith, e)

either_way : {A B C : Type 0} → A ⊎ B → (A → C) → (B → C) → C
either_way (inl a) f g = f a
either_way (inr b) f g = g b

found_in : (d : Declared) (ps : List KernelCall) (call : KernelCall)
    → is_declared (declared_by d ps) call ≡ true → (is_declared d call ≡ true) ⊎ Contains ps call
found_in d [] call h = inl h
found_in d (p ∷ ps) call h =
    either_way (found_in (declared_with d p) ps call h)
    (λ now. either_way (declared-with d p call now) (λ e. inr (Contains-first p call ps e)) (λ old. inl old))
    (λ later. inr (Contains-later p call ps later))

kept_in : (d : Declared) (ps : List KernelCall) (call : KernelCall)
    → is_declared d call ≡ true → is_declared (declared_by d ps) call ≡ true
kept_in d [] call h = h
kept_in d (p ∷ ps) call h = kept_in (declared_with d p) ps call (with-kept d p call h)

named_in : (d : Declared) (ps : List KernelCall) (call : KernelCall) (k : ℕ)
    → k < length ps → slice_index_or ps k call ≡ call → is_declared (declared_by d ps) call ≡ true
named_in d [] call k within e = absurd (omega arith)
named_in d (p ∷ ps) call zero within e = kept_in (declared_with d p) ps call (rw e (with-same d call))
named_in d (p ∷ ps) call (suc k) within e = named_in (declared_with d p) ps call k (omega arith) e

none-declares : (call : KernelCall) → is_declared none_declared call ≡ false
none-declares Init = refl
none-declares _ = refl

pub Contains-from_declared : (ps : List KernelCall) (call : KernelCall)
    → is_declared (declared_by none_declared ps) call ≡ true → Contains ps call
Contains-from_declared ps call h =
    let never : is_declared none_declared call ≡ false = none-declares call in
    either_way (found_in none_declared ps call h) (λ now. absurd (cc)) (λ found. found)

pub declared-from_Contains : (ps : List KernelCall) (call : KernelCall)
    → Contains ps call → is_declared (declared_by none_declared ps) call ≡ true
declared-from_Contains ps call found = named_in none_declared ps call found.0 found.1 found.2
