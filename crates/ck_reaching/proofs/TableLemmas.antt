-- Tables of functions by cell.
use Rattle.std.proofs.Common.{◌≡◌, ◌≢◌, ◌↔◌, ℕ, zero, suc, ◌+◌, ◌<◌, ◌≤◌, ◌⊎◌, Bool, IsTrue, List, [], ◌∷◌, ◌++◌}
use Rattle.std.proofs.Common.{length, set, get_or, refl, sym, ap, ◌∙◌, subst, inl, inr, arith, get_or-set_same}
use Rattle.std.proofs.Common.{get_or-set_other}
use Rattle.std.proofs.lemmas.Bool.{cases_eq}
use Rattle.std.proofs.lemmas.List.{set-get_or, length-set, length-append, get_or_read, get_or_past}
use Rattle.std.proofs.lemmas.List.Sums.{sum_by-set}
use Rattle.ck_rows.specs.declared.rows.Rows.{Rows}
use Rattle.ck_reaching.specs.Sets.{Has}
use Rattle.ck_reaching.specs.Joins.{IsJoin, set_room}
use Rattle.ck_reaching.specs.Reached.{set_at, Holds}
use Rattle.ck_reaching.specs.Growth.{KeepsSizes, IsAddition, table_room}
use Rattle.ck_reaching.proofs.SetLemmas.{Has-past}

-- what holds of the set that was written, and of the others as they were, holds of each
pub by_cell : (table : List (List Rows)) (i : ℕ) (functions : List Rows) (P : ℕ → List Rows → Type 0) →
    i < length table → P i functions → ((c : ℕ) → c ≢ i → P c (set_at table c)) → (c : ℕ) →
    P c (set_at (set table i functions) c)
unfolding set_at
by_cell table i functions P within here others c = elim (cases_eq c i) [
  | inl e ↦ subst (λ q. P q (get_or (set table i functions) q [])) (sym e)
      (subst (P i) (sym (get_or-set_same table i functions [] within)) here)
  | inr ne ↦ subst (P c) (sym (get_or-set_other table i c functions [] ne)) (others c ne)
]

room-set : (table : List (List Rows)) (i : ℕ) (functions : List Rows) → i < length table →
    table_room (set table i functions) + set_room (set_at table i) ≡ table_room table + set_room functions
unfolding table_room set_at
room-set table i functions within = sum_by-set set_room table i functions [] within

set-same : (table : List (List Rows)) (i : ℕ) (functions : List Rows) → functions ≡ set_at table i →
    set table i functions ≡ table
unfolding set_at
set-same table i functions e = ap (set table i) e ∙ set-get_or table i []

pub keeps_sizes-set : (table : List (List Rows)) (i : ℕ) (functions : List Rows) → i < length table →
    length functions ≡ length (set_at table i) → KeepsSizes table (set table i functions)
keeps_sizes-set table i functions within same = record {
  count = length-set table i functions;
  sets = by_cell table i functions (λ c s. length s ≡ length (set_at table c)) within same (λ c ne. refl);
}

-- one set is joined
pub IsAddition-set : (table : List (List Rows)) (i : ℕ) (given functions : List Rows) (grew : Bool) → i < length table →
    IsJoin (set_at table i) given functions grew → IsAddition i given table (set table i functions) grew
IsAddition-set table i given functions grew within u = record {
  kept = λ c f. by_cell table i functions (λ c s. Has (set_at table c) f → Has s f) within (u.kept f) (λ c ne h. h) c;
  added = λ f h.
      by_cell table i functions (λ c s. c ≡ i → Has s f) within (λ e. u.added f h) (λ c ne e. absurd (ne e)) i refl;
  only = λ c f.
      by_cell table i functions (λ c s. Has s f → Holds table c f ⊎ ((c ≡ i) × Has given f)) within
      (λ h. elim (u.only f h) [ inl o ↦ inl o | inr g ↦ inr (refl, g) ]) (λ c ne h. inl h) c;
  sizes = keeps_sizes-set table i functions within u.size;
  same = λ e. set-same table i functions (u.same e);
  room = omega (arith, room-set table i functions within, u.room);
  less_room = λ e. omega (arith, room-set table i functions within, u.less_room e);
}

-- one function is added
pub inserted : (table : List (List Rows)) (i g : ℕ) (functions : List Rows) → i < length table →
    ((f : ℕ) → Has functions f ↔ (Has (set_at table i) f ⊎ (f ≡ g))) → (c f : ℕ) →
    Holds (set table i functions) c f ↔ (Holds table c f ⊎ ((c ≡ i) × (f ≡ g)))
inserted table i g functions within exactly c f = by_cell table i functions
    (λ c s. Has s f ↔ (Holds table c f ⊎ ((c ≡ i) × (f ≡ g)))) within (
      λ h. elim ((exactly f).0 h) [ inl o ↦ inl o | inr e ↦ inr (refl, e) ],
      λ w. (exactly f).1 (elim w [ inl o ↦ inl o | inr e ↦ inr e.1 ]),
    )
    (λ c ne. (λ h. inl h, λ w. elim w [ inl o ↦ o | inr e ↦ absurd (ne e.0) ])) c

pub Holds-read : (table : List (List Rows)) (c f : ℕ) (functions : List Rows) (answer : Bool) → c < length table →
    functions ≡ get_or table c functions → IsTrue answer ↔ Has functions f → IsTrue answer ↔ Holds table c f
unfolding set_at
Holds-read table c f functions answer within read says =
    let at : functions ≡ set_at table c = get_or_read table c functions within read [] in
    (λ t. subst (λ s. Has s f) at (says.0 t), λ h. says.1 (subst (λ s. Has s f) (sym at) h))

pub Holds-past : (table : List (List Rows)) (c f : ℕ) → length table ≤ c → Holds table c f → ⊥
unfolding set_at
Holds-past table c f past h =
    Has-past [] f (omega arith) (subst (λ s. Has s f) (get_or_past table c [] past) h)

pub set_at-read : (table : List (List Rows)) (c : ℕ) (functions : List Rows) → c < length table →
    functions ≡ get_or table c functions → functions ≡ set_at table c
unfolding set_at
set_at-read table c functions within read = get_or_read table c functions within read []

-- the sets so far, which are empty
pub record AreEmptySets (n width : ℕ) (table : List (List Rows)) : Type 0 where
  pub count : length table ≡ n
  pub sets : (c : ℕ) → c < n → length (set_at table c) ≡ width
  pub none : (c f : ℕ) → Holds table c f → ⊥

pub empty_sets-none : (table : List (List Rows)) (width : ℕ) → table ≡ [] → AreEmptySets 0 width table
empty_sets-none table width e = record {
  count = ap length e;
  sets = λ c below. absurd (omega arith);
  none = λ c f h. Holds-past table c f (omega (arith, ap length e)) h;
}

set_at-pushed : (table : List (List Rows)) (functions : List Rows) (P : ℕ → List Rows → Type 0) →
    P (length table) functions → ((c : ℕ) → c ≢ length table → P c (set_at table c)) → (c : ℕ) →
    P c (set_at (table ++ functions ∷ []) c)
unfolding set_at
set_at-pushed [] functions P here others zero = here
set_at-pushed [] functions P here others (suc c) = others (suc c) (λ e. omega (arith, e))
set_at-pushed (x ∷ xs) functions P here others zero = others zero (λ e. omega (arith, e))
set_at-pushed (x ∷ xs) functions P here others (suc c) =
    set_at-pushed xs functions (λ k. P (suc k)) here
    (λ k ne. others (suc k) (λ e. ne (omega (arith, e)))) c

pub empty_sets-more : (n width : ℕ) (table new : List (List Rows)) (functions : List Rows) →
    new ≡ table ++ functions ∷ [] → length functions ≡ width → ((f : ℕ) → Has functions f → ⊥) →
    AreEmptySets n width table → AreEmptySets (n + 1) width new
empty_sets-more n width table new functions pushed size empty before = record {
  count = omega (arith, ap length pushed, length-append table (functions ∷ []), before.count);
  sets = λ c below. subst (λ t. length (set_at t c) ≡ width) (sym pushed)
      (set_at-pushed table functions (λ k s. k < n + 1 → length s ≡ width) (λ b. size)
      (λ k ne b. before.sets k (omega (arith, ne, b, before.count))) c below);
  none = λ c f h. set_at-pushed table functions (λ k s. Has s f → ⊥) (empty f) (λ k ne. before.none k f) c
      (subst (λ t. Holds t c f) pushed h);
}
