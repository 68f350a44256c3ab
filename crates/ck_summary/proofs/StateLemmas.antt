-- Steps and entries, as far as a loop over the states has come.
use Rattle.std.proofs.Common.{◌≡◌, ℕ, ◌+◌, ◌<◌, ◌≤◌, ◌⊎◌, sym, ap, ◌∙◌, subst, inl, inr, arith}
use Rattle.std.proofs.lemmas.Bool.{cases_eq}
use Rattle.ck_base.specs.declared.ops.Op.{Op}
use Rattle.ck_base.specs.declared.states.State.{State}
use Rattle.ck_base.specs.declared.states.State.TheVariants.{TI, TN, TS, TD, TL, TP, HB, HO, HL, HE, FF, XL, NL, NP, OX}
use Rattle.ck_base.specs.declared.states.State.TheVariants.{ON}
use Rattle.ck_base.specs.declared.states.Outcome.TheVariants.{Next}
use Rattle.ck_base.specs.Act.{act, state_code}
use Rattle.ck_rows.specs.declared.rows.Rows.{Rows}
use Rattle.ck_rows.specs.Relation.{Relates}
use Rattle.ck_summary.specs.Growth.{AreEntries, IsStep}
use Rattle.ck_summary.proofs.StateCodes.{state_code-one}

pub state_code-below : (s : State) → state_code s < 16
state_code-below TI = omega arith
state_code-below TN = omega arith
state_code-below TS = omega arith
state_code-below TD = omega arith
state_code-below TL = omega arith
state_code-below TP = omega arith
state_code-below HB = omega arith
state_code-below HO = omega arith
state_code-below HL = omega arith
state_code-below HE = omega arith
state_code-below FF = omega arith
state_code-below XL = omega arith
state_code-below NL = omega arith
state_code-below NP = omega arith
state_code-below OX = omega arith
state_code-below ON = omega arith

-- a single pair was added
pub record IsOneMore (old new : Rows) (from to : ℕ) : Type 0 where
  pub there : Relates new from to
  pub kept : (a b : ℕ) → Relates old a b → Relates new a b
  pub only : (a b : ℕ) → Relates new a b → Relates old a b ⊎ ((a ≡ from) × (b ≡ to))

-- the states below n
pub record StepSoFar (op : Op) (step : Rows) (n : ℕ) : Type 0 where
  pub leads : (state next : State) → state_code state < n → act op state ≡ Next next →
      Relates step (state_code state) (state_code next)
  pub only : (a b : ℕ) → Relates step a b →
      (state : State) × (next : State) × (state_code state ≡ a) × (state_code next ≡ b) × (act op state ≡ Next next)

pub StepSoFar-start : (op : Op) (step : Rows) → ((a b : ℕ) → Relates step a b → ⊥) → StepSoFar op step 0
StepSoFar-start op step none = record { leads = λ state next below. omega arith; only = λ a b r. absurd (none a b r) }

pub StepSoFar-leads : (op : Op) (old new : Rows) (state next : State) → act op state ≡ Next next →
    StepSoFar op old (state_code state) → IsOneMore old new (state_code state) (state_code next) →
    StepSoFar op new (state_code state + 1)
StepSoFar-leads op old new state next acts s more = record {
  leads = λ t u below e. elim (cases_eq (state_code t) (state_code state)) [
    | inl same ↦
        let is : t ≡ state = state_code-one t state same in
        let results : Next u ≡ Next next = sym e ∙ (ap (act op) is ∙ acts) in
        let next_is : u ≡ next = cc in
        subst (λ x. Relates new (state_code t) (state_code x)) (sym next_is)
        (subst (λ x. Relates new x (state_code next)) (sym same) more.there)
    | inr other ↦ more.kept (state_code t) (state_code u) (s.leads t u (omega (arith, below, other)) e)
  ];
  only = λ a b r. elim (more.only a b r) [
    | inl old ↦ s.only a b old
    | inr one ↦ (state, next, sym one.0, sym one.1, acts)
  ];
}

pub StepSoFar-stays : (op : Op) (step : Rows) (state : State) → ((next : State) → act op state ≡ Next next → ⊥) →
    StepSoFar op step (state_code state) → StepSoFar op step (state_code state + 1)
StepSoFar-stays op step state stops s = record {
  leads = λ t u below e. elim (cases_eq (state_code t) (state_code state)) [
    | inl same ↦ absurd (stops u (ap (act op) (sym (state_code-one t state same)) ∙ e))
    | inr other ↦ s.leads t u (omega (arith, below, other)) e
  ];
  only = s.only;
}

pub IsStep-from_all : (op : Op) (step : Rows) (n : ℕ) → 16 ≤ n → StepSoFar op step n → IsStep op step
IsStep-from_all op step n all s =
    record { leads = λ state next e. s.leads state next (omega (arith, all, state_code-below state)) e; only = s.only }

-- the numbers below n
pub record EntriesSoFar (rows entries : Rows) (n : ℕ) : Type 0 where
  pub each : (a b : ℕ) → b < n → Relates rows a b → Relates entries b b
  pub only : (b d : ℕ) → Relates entries b d → (b ≡ d) × ((a : ℕ) × Relates rows a d)

pub EntriesSoFar-start : (rows entries : Rows) → ((a b : ℕ) → Relates entries a b → ⊥) → EntriesSoFar rows entries 0
EntriesSoFar-start rows entries none = record { each = λ a b below. omega arith; only = λ b d r. absurd (none b d r) }

pub EntriesSoFar-reached : (rows old new : Rows) (n : ℕ) → ((a : ℕ) × Relates rows a n) → EntriesSoFar rows old n →
    IsOneMore old new n n → EntriesSoFar rows new (n + 1)
EntriesSoFar-reached rows old new n from s more = record {
  each = λ a b below r. elim (cases_eq b n) [
    | inl same ↦ subst (λ x. Relates new x x) (sym same) more.there
    | inr other ↦ more.kept b b (s.each a b (omega (arith, below, other)) r)
  ];
  only = λ b d r. elim (more.only b d r) [
    | inl old ↦ s.only b d old
    | inr one ↦ (one.0 ∙ sym one.1, (from.0, subst (λ x. Relates rows from.0 x) (sym one.1) from.1))
  ];
}

pub EntriesSoFar-left : (rows entries : Rows) (n : ℕ) → ((a : ℕ) → Relates rows a n → ⊥) → EntriesSoFar rows entries n →
    EntriesSoFar rows entries (n + 1)
EntriesSoFar-left rows entries n none s = record {
  each = λ a b below r. elim (cases_eq b n) [
    | inl same ↦ absurd (none a (subst (λ x. Relates rows a x) same r))
    | inr other ↦ s.each a b (omega (arith, below, other)) r
  ];
  only = s.only;
}

pub AreEntries-from_all : (rows entries : Rows) (n : ℕ) → 16 ≤ n → EntriesSoFar rows entries n → AreEntries rows entries
AreEntries-from_all rows entries n all s =
    record { each = λ a b r. s.each a b (omega (arith, all, r.to_below)) r; only = s.only }
