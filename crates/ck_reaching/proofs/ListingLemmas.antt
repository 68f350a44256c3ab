-- The worklist: what is listed is on the stack.
use Rattle.std.proofs.Common.{◌≡◌, ◌≢◌, ◌⊎◌, ℕ, ◌<◌, Bool, true, false, List, [], ◌∷◌, ◌++◌, length, set, get_or}
use Rattle.std.proofs.Common.{replicate, refl, sym, ap, ◌∙◌, subst, inl, inr, arith, get_or-set_same, get_or-set_other}
use Rattle.std.specs.List.{Contains}
use Rattle.std.proofs.lemmas.Bool.{cases_eq, cases_lt}
use Rattle.std.proofs.lemmas.List.{length-append, length-set, get_or-replicate, get_or_past, length-replicate}
use Rattle.std.proofs.lemmas.List.Elements.{Contains-push, Contains-push_cases, Contains-append_left}
use Rattle.ck_reaching.specs.Listing.{Listing, IsListed, IsStacked, IsNoted, flag_at, size_of}

flag_at-replicate : (n k : ℕ) → flag_at (replicate n false) k ≡ true → ⊥
unfolding flag_at
flag_at-replicate n k e = elim (cases_lt k n) [
  | inl below ↦ let no_flag = get_or-replicate n k false false below in absurd (cc (no_flag, e))
  | inr past ↦
      let no_flag = get_or_past (replicate n false) k false (omega (arith, past, length-replicate n false)) in
      absurd (cc (no_flag, e))
]

pub none-listed : (l : Listing) (n : ℕ) → l.flags ≡ replicate n false → (k : ℕ) → IsListed l k → ⊥
none-listed l n same k is = flag_at-replicate n k (subst (λ flags. flag_at flags k ≡ true) same is.flag)

pub stacked-none : (l : Listing) (n : ℕ) → l.stack ≡ [] → l.flags ≡ replicate n false → IsStacked l
stacked-none l n empty same = record {
  there = λ k e. absurd (none-listed l n same k (record { flag = e }));
  below = λ k has. let none : Contains [] k =
      subst (λ s. Contains s k) empty has in absurd (omega (arith, none.1));
}

-- a flag that was written, and those that weren't
by_flag : (flags : List Bool) (i : ℕ) (b : Bool) (P : ℕ → Bool → Type 0) → i < length flags → P i b →
    ((k : ℕ) → k ≢ i → P k (flag_at flags k)) → (k : ℕ) → P k (flag_at (set flags i b) k)
unfolding flag_at
by_flag flags i b P within here others k = elim (cases_eq k i) [
  | inl e ↦ subst (λ q. P q (get_or (set flags i b) q false)) (sym e)
      (subst (P i) (sym (get_or-set_same flags i b false within)) here)
  | inr ne ↦ subst (P k) (sym (get_or-set_other flags i k b false ne)) (others k ne)
]

pub stacked-put : (old new : Listing) (number : ℕ) → number < size_of old → new.stack ≡ old.stack ++ number ∷ [] →
    new.flags ≡ set old.flags number true → IsStacked old → IsStacked new
stacked-put old new number within pushed set_is is = record {
  there = λ n e. subst (λ s. Contains s n) (sym pushed)
      (by_flag old.flags number true (λ k b. b ≡ true → Contains (old.stack ++ number ∷ []) k) within
      (λ e. Contains-push old.stack number)
      (λ k ne e. Contains-append_left old.stack (number ∷ []) k (is.there k e)) n
      (subst (λ flags. flag_at flags n ≡ true) set_is e));
  below = λ n has.
      let size = length-set old.flags number true in
      let before : n < size_of old = elim
      (Contains-push_cases old.stack number n (subst (λ s. Contains s n) pushed has)) [
        | inl before ↦ is.below n before
        | inr e ↦ subst (λ m. m < size_of old) e within
      ] in
      subst (λ flags. n < length flags) (sym set_is) (omega (arith, before, size));
}

pub noted-put : (old new : Listing) (number : ℕ) → number < size_of old → new.stack ≡ old.stack ++ number ∷ [] →
    new.flags ≡ set old.flags number true → IsNoted number old new
noted-put old new number within pushed set_is =
    let flag = λ (n : ℕ) (e : flag_at (set old.flags number true) n ≡ true).
    subst (λ flags. flag_at flags n ≡ true) (sym set_is) e in
    record {
      there = record {
        flag = flag number (by_flag old.flags number true (λ k b. k ≡ number → b ≡ true) within (λ e. refl)
            (λ k ne e. absurd (ne e)) number refl);
      };
      kept = λ n is. record {
        flag = flag n (by_flag old.flags number true (λ k b. flag_at old.flags k ≡ true → b ≡ true) within
            (λ e. refl) (λ k ne e. e) n is.flag);
      };
      count = omega (arith, ap length pushed, length-append old.stack (number ∷ []));
      size = ap length set_is ∙ length-set old.flags number true;
    }

pub noted-same : (l : Listing) (number : ℕ) → flag_at l.flags number ≡ true → IsNoted number l l
noted-same l number flag = record {
  there = record { flag = flag };
  kept = λ n is. is;
  count = omega arith;
  size = refl;
}

-- the number that came last is taken
pub taken-below : (old : Listing) (stack : List ℕ) (number : ℕ) → old.stack ≡ stack ++ number ∷ [] → IsStacked old →
    number < size_of old
taken-below old stack number popped is =
    is.below number (subst (λ s. Contains s number) (sym popped) (Contains-push stack number))

pub stacked-taken : (old new : Listing) (number : ℕ) → old.stack ≡ new.stack ++ number ∷ [] →
    new.flags ≡ set old.flags number false → IsStacked old → IsStacked new
stacked-taken old new number popped set_is is = record {
  there = λ n e.
      by_flag old.flags number false (λ k b. b ≡ true → Contains new.stack k)
      (taken-below old new.stack number popped is) (λ e. absurd (cc e))
      (λ k ne e. elim
      (Contains-push_cases new.stack number k (subst (λ s. Contains s k) popped (is.there k e)))
      [ inl left ↦ left | inr same ↦ absurd (ne (sym same)) ]) n
      (subst (λ flags. flag_at flags n ≡ true) set_is e);
  below = λ n has. subst (λ flags. n < length flags) (sym set_is)
      (subst (λ m. n < m) (sym (length-set old.flags number false))
      (is.below n (subst (λ s. Contains s n) (sym popped) (Contains-append_left new.stack (number ∷ []) n has))));
}

pub others-taken : (old new : Listing) (number : ℕ) → number < size_of old → new.flags ≡ set old.flags number false →
    (n : ℕ) → IsListed old n → IsListed new n ⊎ (number ≡ n)
others-taken old new number within set_is n is = elim (cases_eq n number) [
  | inl e ↦ inr (sym e)
  | inr ne ↦ inl (record {
    flag = subst (λ flags. flag_at flags n ≡ true) (sym set_is)
        (by_flag old.flags number false (λ k b. k ≢ number → flag_at old.flags k ≡ true → b ≡ true) within
        (λ ne. absurd (ne refl)) (λ k ne ne' e. e) n ne is.flag);
  })
]

pub no_other-taken : (old new : Listing) (number : ℕ) → number < size_of old →
    new.flags ≡ set old.flags number false → (n : ℕ) → IsListed new n → IsListed old n
no_other-taken old new number within set_is n is = record {
  flag = by_flag old.flags number false (λ k b. b ≡ true → flag_at old.flags k ≡ true) within (λ e. absurd (cc e))
      (λ k ne e. e) n (subst (λ flags. flag_at flags n ≡ true) set_is is.flag);
}
