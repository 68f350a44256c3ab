-- A loop that pushes elements on a row, against a reader of as many as come. `none` is the row without elements, and
-- `by go` reads one element and then the others by `go`.
use Rattle.std.proofs.Common.{◌≡◌, ℕ, zero, suc, ◌+◌, ◌-◌, ◌<◌, ◌≤◌, List, length, drop, ap, sym, subst, ◌∙◌}
use Rattle.std.proofs.Common.{length-drop, arith}
use Rattle.std.specs.Prelude.{Option, Some, None, Result, Ok, Err}
use Rattle.ck_base.specs.declared.refusals.OutOfMemory.{OutOfMemory}
use Rattle.ck_base.specs.declared.tokens.Token.{Token}
use Rattle.ck_grammar.specs.Readers.{Read, Reader, or_else, onto}
use Rattle.ck_readers.specs.Places.{after, IsStep, NoStep, SteppedAt, StepAt, IsRow}

-- what a step leaves of an answer
stepped : {B : Type 0} (old : B → B) (none : B × List Token) (answer : Read B) (all : B × List Token)
    → after old answer ≡ Some all → onto old (or_else none answer) ≡ all
stepped old none None all h = cc
stepped old none (Some x) all h = cc

module _ {B : Type 0} (none : B) (by : (List Token → B × List Token) → Reader B)
    (loop : ℕ → List Token → B × List Token) where
  -- the equations of a reader of as many as come, at most as many as the first number
  pub record IsLoop : Type 0 where
    pub stops : (ts : List Token) → loop zero ts ≡ (none, ts)
    pub goes : (fuel : ℕ) (ts : List Token) → loop (suc fuel) ts ≡ or_else (none, ts) (by (loop fuel) ts)

  -- what is read from the start is what the row has, and then what is read from here
  pub record SoFar (row : B → B) (tokens : List Token) (at next fuel : ℕ) : Type 0 where
    pub read : loop (length (drop at tokens)) (drop at tokens) ≡ onto row (loop fuel (drop next tokens))
    pub within : at ≤ length tokens → next ≤ length tokens

  pub so_far_start : (row : B → B) (tokens : List Token) (at fuel : ℕ) → ((rest : B) → row rest ≡ rest)
      → fuel ≡ length tokens - at → SoFar row tokens at at fuel
  so_far_start row tokens at fuel empty is = record {
    read =
        ap (λ n. loop n (drop at tokens)) (length-drop at tokens ∙ sym is)
        ∙ sym (ap (λ b. (b, (loop fuel (drop at tokens)).1)) (empty (loop fuel (drop at tokens)).0));
    within = λ h. h;
  }

  pub so_far_step : (old new : B → B) (tokens : List Token) (at next place fuel rest : ℕ) → IsLoop → fuel ≡ suc rest
      → SoFar old tokens at next fuel → IsStep old new by tokens next place → SoFar new tokens at place rest
  so_far_step old new tokens at next place fuel rest equations is far step = record {
    read =
        far.read ∙ ap (λ n. onto old (loop n (drop next tokens))) is
        ∙ ap (onto old) (equations.goes rest (drop next tokens))
        ∙ stepped old _ _ _ (step.read (loop rest));
    within = λ h. step.within (far.within h);
  }

  pub so_far_stop : {X : Type 0} (row : X → B → B) (x : X) (old : B → B) (tokens : List Token) (at next fuel rest : ℕ)
      → IsLoop → fuel ≡ suc rest → SoFar old tokens at next fuel → NoStep old (row x) by tokens next
      → IsRow (λ y. row y none) (λ ts. loop (length ts) ts) tokens at (x, next)
  so_far_stop row x old tokens at next fuel rest equations is far stop = record {
    read =
        far.read ∙ ap (λ n. onto old (loop n (drop next tokens))) is
        ∙ ap (onto old) (equations.goes rest (drop next tokens))
        ∙ ap (λ r. onto old (or_else (none, drop next tokens) r)) (stop.none (loop rest))
        ∙ ap (λ b. (b, drop next tokens)) (sym (stop.stays none));
    within = far.within;
  }

  pub so_far_end : {X : Type 0} (row : X → B → B) (x : X) (tokens : List Token) (at next fuel : ℕ) → IsLoop
      → fuel ≡ zero → SoFar (row x) tokens at next fuel
      → IsRow (λ y. row y none) (λ ts. loop (length ts) ts) tokens at (x, next)
  so_far_end row x tokens at next fuel equations is far = record {
    read =
        far.read ∙ ap (λ n. onto (row x) (loop n (drop next tokens))) is
        ∙ ap (onto (row x)) (equations.stops (drop next tokens));
    within = far.within;
  }

-- what a step answered
pub no_step : {B : Type 0} (old new : B → B) (by : (List Token → B × List Token) → Reader B) (tokens : List Token)
    (at : ℕ) (step : Option ℕ) → step ≡ None → SteppedAt old new by tokens at step → NoStep old new by tokens at
no_step old new by tokens at step is h = subst (SteppedAt old new by tokens at) is h

pub is_step : {B : Type 0} (old new : B → B) (by : (List Token → B × List Token) → Reader B) (tokens : List Token)
    (at : ℕ) (step : Option ℕ) (place : ℕ) → step ≡ Some place → SteppedAt old new by tokens at step
    → IsStep old new by tokens at place
is_step old new by tokens at step place is h = subst (SteppedAt old new by tokens at) is h

-- how many steps are left
pub fuel_step : (size step end : ℕ) → step < end → end ≡ size → size - step ≡ suc (size - (step + 1))
fuel_step size step end below is = omega arith

pub fuel_end : (size step end : ℕ) → end ≤ step → end ≡ size → size - step ≡ zero
fuel_end size step end past is = omega arith

-- a step of one reader is a step of another that reads the same there
pub step_same : {B : Type 0} (old new : B → B) (by other : (List Token → B × List Token) → Reader B)
    (tokens : List Token) (at : ℕ) (result : Result (Option ℕ) OutOfMemory)
    → ((go : List Token → B × List Token) → by go (drop at tokens) ≡ other go (drop at tokens))
    → StepAt old new by tokens at result → StepAt old new other tokens at result
step_same old new by other tokens at (Ok None) same h = record {
  none = λ go. sym (same go) ∙ h.none go;
  stays = h.stays;
}
step_same old new by other tokens at (Ok (Some next)) same h = record {
  read = λ go. ap (after old) (sym (same go)) ∙ h.read go;
  within = h.within;
}
step_same old new by other tokens at (Err e) same h = tt
