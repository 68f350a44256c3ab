-- Which functions are listed at a holder, and the function of a number.
use Rattle.std.proofs.Common.{◌≡◌, ⊎_elim, eqb-true, eq-eqb, refl, ap, sym, subst}
use Rattle.std.specs.Prelude.{ℕ, Bool, true, false, ◌&&◌, ◌||◌, ◌==◌, List, [], ◌∷◌, Option, Some, None, option_to_list}
use Rattle.std.specs.Prelude.{if◌then◌else◌}
use Rattle.ck_slots.specs.Holders.{Holder, InSlot, ThreadSink, TimerSink, same_holder}
use Rattle.ck_slots.specs.Listed.{Reached, is_among, is_listed, listed_at, listed_if_any}
use Rattle.ck_slots.proofs.Tests.{both, both_from, left, one, right}

pub is_one_holder : (h g : Holder) → same_holder h g ≡ true → h ≡ g
is_one_holder (InSlot f n) (InSlot g m) e =
    let parts = both (f == g) _ e in
    let files = eqb-true f g parts.0 in
    let starts = eqb-true n m parts.1 in λ i. InSlot (files i) (starts i)
is_one_holder ThreadSink ThreadSink e = refl
is_one_holder TimerSink TimerSink e = refl
is_one_holder _ _ e = absurd (cc)

pub at_holder : (known : List Reached) (n : ℕ) (h : Holder) → is_listed known n h ≡ true
    → is_among n (listed_at h known) ≡ true
at_holder [] n h e = absurd (cc)
at_holder (k ∷ ks) n h e = by (same_holder h k.holder) e (at_holder ks n h)
  where
    by : (b : Bool) → (n == k.function && b || is_listed ks n h) ≡ true
        → (is_listed ks n h ≡ true → is_among n (listed_at h ks) ≡ true)
        → is_among n (if b then k.function ∷ listed_at h ks else listed_at h ks) ≡ true
    by true e rest =
        ⊎_elim (λ s. left (n == k.function) _ (both (n == k.function) true s).0)
        (λ r. right (n == k.function) _ (rest r))
        (one (n == k.function && true) (is_listed ks n h) e)
    by false e rest =
        ⊎_elim (λ s. let never : false ≡ true = (both (n == k.function) false s).1 in absurd (cc)) rest
        (one (n == k.function && false) (is_listed ks n h) e)

pub from_holder : (known : List Reached) (n : ℕ) (h : Holder) → is_among n (listed_at h known) ≡ true
    → is_listed known n h ≡ true
from_holder [] n h e = absurd (cc)
from_holder (k ∷ ks) n h e = by (same_holder h k.holder) e (from_holder ks n h)
  where
    by : (b : Bool) → is_among n (if b then k.function ∷ listed_at h ks else listed_at h ks) ≡ true
        → (is_among n (listed_at h ks) ≡ true → is_listed ks n h ≡ true)
        → (n == k.function && b || is_listed ks n h) ≡ true
    by true e rest =
        ⊎_elim (λ s. left (n == k.function && true) (is_listed ks n h) (both_from (n == k.function) true s refl))
        (λ r. right (n == k.function && true) (is_listed ks n h) (rest r))
        (one (n == k.function) (is_among n (listed_at h ks)) e)
    by false e rest = right (n == k.function && false) (is_listed ks n h) (rest e)

pub from_holder_if_any : (known : List Reached) (n : ℕ) (at : Option Holder)
    → is_among n (listed_if_any known at) ≡ true → (h : Holder) × (at ≡ Some h) × (is_listed known n h ≡ true)
from_holder_if_any known n None e = absurd (cc)
from_holder_if_any known n (Some h) e = (h, refl, from_holder known n h e)

pub by_number : (n : ℕ) (found : Option ℕ) → found ≡ Some n → is_among n (option_to_list found) ≡ true
by_number n found e =
    subst (λ f. is_among n (option_to_list f) ≡ true) (sym e) (left (n == n) _ (eq-eqb n n refl))

pub from_number : (n : ℕ) (found : Option ℕ) → is_among n (option_to_list found) ≡ true → found ≡ Some n
from_number n None e = absurd (cc)
from_number n (Some m) e =
    ⊎_elim (λ s. ap Some (sym (eqb-true n m s))) (λ none. absurd (cc)) (one (n == m) _ e)
