-- The edges of a pick one by one, and how many steps, edges and points there are.
use Rattle.std.proofs.Common.{◌≡◌, ℕ, zero, suc, ◌+◌, ◌*◌, ◌≤◌, true, false, List, [], ◌∷◌}
use Rattle.std.proofs.Common.{length, refl, ap, arith}
use Rattle.std.proofs.lemmas.List.{length-append}
use Rattle.ck_base.specs.declared.spans.FnId.{FnId}
use Rattle.ck_graph.specs.declared.points.Label.TheVariants as label
use Rattle.ck_contexts.specs.declared.contexts.Context.{Context}
use Rattle.ck_contexts.specs.declared.contexts.Context.TheVariants.{Main, Thread, Vector, Callback, Timer}
use Rattle.ck_contexts.specs.declared.placing.Placing.{Placing}
use Rattle.ck_contexts.specs.declared.steps.Step.{Step}
use Rattle.ck_contexts.specs.Extended.{edge, picks, points_from}
use Rattle.ck_contexts.specs.Synthetic.{calls, unlocked_calls, callback, locked_callback, timer, steps}
use Rattle.ck_contexts.specs.Synthetic.{functions_of}

-- the edges of a pick from the k-th function on
pub picks-more : (at : Placing) (k place size m n : ℕ) → m ≡ suc n
    → picks at k place size m ≡ edge at place (label.Pick k) ∷ picks at (k + 1) (place + size) size n
picks-more at k place size m n e = ap (picks at k place size) e

-- lengths
pub length-calls : (number : ℕ) (fs : List FnId) (next : ℕ) → length (calls number fs next) ≡ length fs
length-calls number [] next = refl
length-calls number (f ∷ fs) next = ap suc (length-calls (number + 1) fs next)

pub length-unlocked_calls : (place number : ℕ) (fs : List FnId) (next : ℕ)
    → length (unlocked_calls place number fs next) ≡ 3 * length fs
length-unlocked_calls place number [] next = refl
length-unlocked_calls place number (f ∷ fs) next =
    let rest = length-unlocked_calls (place + 3) (number + 1) fs next in
    omega arith

pub length-picks : (at : Placing) (k place size n : ℕ) → length (picks at k place size n) ≡ n
length-picks at k place size zero = refl
length-picks at k place size (suc n) = ap suc (length-picks at (k + 1) (place + size) size n)

pub length-points_from : (at : Placing) (place : ℕ) (ss : List Step)
    → length (points_from at place ss) ≡ suc (length ss)
length-points_from at place [] = refl
length-points_from at place (s ∷ ss) = ap suc (length-points_from at (place + 1) ss)

pub length-callback : (number : ℕ) (fs : List FnId) → length (callback number fs) ≡ length fs + 4
length-callback number fs = simp (length-append, length-calls) (omega arith)

pub length-locked_callback : (number : ℕ) (fs : List FnId) → length (locked_callback number fs) ≡ length fs + 6
length-locked_callback number fs = simp (length-append, length-calls) (omega arith)

pub length-timer : (number : ℕ) (fs : List FnId) → length (timer number fs) ≡ 3 * length fs + 6
length-timer number fs = simp (length-append, length-unlocked_calls) (omega arith)

-- no context runs more functions than there are steps round it
pub functions-few : (number : ℕ) (c : Context) → length (functions_of c) ≤ length (steps number c)
functions-few number (Main f) = omega arith
functions-few number (Thread f) = omega arith
functions-few number (Vector f fast) = omega arith
functions-few number (Callback fs true) = omega (arith, length-locked_callback number fs.items)
functions-few number (Callback fs false) = omega (arith, length-callback number fs.items)
functions-few number (Timer fs) = omega (arith, length-timer number fs.items)

pub steps-few : (number : ℕ) (c : Context) → length (steps number c) ≤ 3 * length (functions_of c) + 6
steps-few number (Main f) = omega arith
steps-few number (Thread f) = omega arith
steps-few number (Vector f fast) = omega arith
steps-few number (Callback fs true) = omega (arith, length-locked_callback number fs.items)
steps-few number (Callback fs false) = omega (arith, length-callback number fs.items)
steps-few number (Timer fs) = omega (arith, length-timer number fs.items)
