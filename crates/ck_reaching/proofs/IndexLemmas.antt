-- Lists of numbers as they are filled.
use Rattle.std.proofs.Common.{◌≡◌, ◌↔◌, ◌⊎◌, ℕ, zero, suc, ◌+◌, ◌<◌, List, [], ◌∷◌, ◌++◌, length, set, get_or}
use Rattle.std.proofs.Common.{refl, sym, ap, ◌∙◌, subst, inl, inr, arith, get_or-set_same, get_or-set_other}
use Rattle.std.specs.List.{Contains}
use Rattle.std.proofs.lemmas.Bool.{cases_eq}
use Rattle.std.proofs.lemmas.List.{length-append, length-set, length-map, map-set, get_or-map}
use Rattle.std.proofs.lemmas.List.Elements.{Contains-push, Contains-push_cases, Contains-append_left}
use Rattle.std.specs.declared.alloc.Global.{Global}
use Rattle.std.specs.declared.vec.Vec.{Vec}
use Rattle.ck_reaching.specs.Indices.{numbers_at, items_of, lists_of, AddsNumber}

-- a list in memory, as it is read
pub numbers_at-items : (items : List (Vec ℕ Global)) (i : ℕ) (numbers : Vec ℕ Global) → i < length items →
    numbers ≡ get_or items i numbers → numbers.items ≡ numbers_at (lists_of items) i
unfolding numbers_at
numbers_at-items items i numbers within is = ap items_of is ∙ sym (get_or-map items_of items i numbers [] within)

adds-one : (lists : List (List ℕ)) (i number : ℕ) → i < length lists → (k n : ℕ) →
    Contains (numbers_at (set lists i (numbers_at lists i ++ number ∷ [])) k) n ↔
    (Contains (numbers_at lists k) n ⊎ ((k ≡ i) × (n ≡ number)))
unfolding numbers_at
adds-one lists i number within k n =
    let numbers : List ℕ = numbers_at lists i ++ number ∷ [] in
    elim (cases_eq k i) [
      | inl e ↦
          let at : numbers_at (set lists i numbers) k ≡ numbers =
          ap (numbers_at (set lists i numbers)) e ∙ get_or-set_same lists i numbers [] within in (
            λ there. elim (Contains-push_cases (numbers_at lists i) number n (subst (λ l. Contains l n) at there)) [
              | inl old ↦ inl (subst (λ x. Contains (numbers_at lists x) n) (sym e) old)
              | inr new ↦ inr (e, sym new)
            ],
            λ w. subst (λ l. Contains l n) (sym at) (elim w [
              | inl old ↦ Contains-append_left (numbers_at lists i) (number ∷ []) n
                  (subst (λ x. Contains (numbers_at lists x) n) e old)
              | inr new ↦ subst (Contains numbers) (sym new.1) (Contains-push (numbers_at lists i) number)
            ]),
          )
      | inr ne ↦
          let at : numbers_at (set lists i numbers) k ≡ numbers_at lists k =
          get_or-set_other lists i k numbers [] ne in (
            λ there. inl (subst (λ l. Contains l n) at there),
            λ w. elim w [ inl old ↦ subst (λ l. Contains l n) (sym at) old | inr new ↦ absurd (ne new.0) ],
          )
    ]

-- a number was pushed in memory
pub adds-pushed : (items : List (Vec ℕ Global)) (i number : ℕ) (was is : Vec ℕ Global) → i < length items →
    was ≡ get_or items i was → is.items ≡ was.items ++ number ∷ [] →
    AddsNumber i number (lists_of items) (lists_of (set items i is))
adds-pushed items i number was is within read pushed =
    let lists : List (List ℕ) = lists_of items in
    let numbers : is.items ≡ numbers_at lists i ++ number ∷ [] =
    pushed ∙ ap (λ x. x ++ number ∷ []) (numbers_at-items items i was within read) in
    let new : lists_of (set items i is) ≡ set lists i (numbers_at lists i ++ number ∷ []) =
    map-set items_of items i is ∙ ap (set lists i) numbers in
    let below : i < length lists = omega (arith, within, length-map items items_of) in
    record {
      size = ap length new ∙ length-set lists i (numbers_at lists i ++ number ∷ []);
      exactly = λ k n. subst
          (λ l. Contains (numbers_at l k) n ↔ (Contains (numbers_at lists k) n ⊎ ((k ≡ i) × (n ≡ number)))) (sym new)
          (adds-one lists i number below k n);
    }

pub length-pushed : (items new : List (Vec ℕ Global)) (numbers : Vec ℕ Global) → new ≡ items ++ numbers ∷ [] →
    length new ≡ length items + 1
length-pushed items new numbers is = ap length is ∙ length-append items (numbers ∷ [])

-- one more list, which is empty
pub none-pushed : (items new : List (Vec ℕ Global)) (numbers : Vec ℕ Global) → new ≡ items ++ numbers ∷ [] →
    numbers.items ≡ [] → ((k : ℕ) → numbers_at (lists_of items) k ≡ []) → (k : ℕ) → numbers_at (lists_of new) k ≡ []
unfolding numbers_at
none-pushed items new numbers is empty none k = ap (λ x. get_or (lists_of x) k []) is ∙ appended items none k where
  appended : (xs : List (Vec ℕ Global)) → ((k : ℕ) → get_or (lists_of xs) k [] ≡ []) → (k : ℕ) →
      get_or (lists_of (xs ++ numbers ∷ [])) k [] ≡ []
  appended [] before zero = empty
  appended [] before (suc k) = refl
  appended (x ∷ xs) before zero = before zero
  appended (x ∷ xs) before (suc k) = appended xs (λ j. before (suc j)) k

pub no_numbers : (lists : List (List ℕ)) → ((k : ℕ) → numbers_at lists k ≡ []) → (k n : ℕ) →
    Contains (numbers_at lists k) n → ⊥
no_numbers lists none k n there =
    let nothing : Contains [] n = subst (λ l. Contains l n) (none k) there in
    absurd (omega (arith, nothing.1))
