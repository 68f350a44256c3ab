-- Steps one after the other, and how they end.
use Rattle.std.proofs.Common.{◌≡◌, ℕ, suc, ◌+◌, ◌-◌, ◌<◌, Bool, false, List, [], ◌∷◌, ◌++◌, length, take, get_or}
use Rattle.std.proofs.Common.{Option, Some, None, refl, sym, ap, ◌∙◌, arith}
use Rattle.std.proofs.Common.{append_assoc}
use Rattle.std.specs.Prelude.{slice_get}
use Rattle.std.proofs.lemmas.List.{append-nil, take_more}
use Rattle.ck_base.specs.declared.spans.Span.{Span}
use Rattle.ck_graph.specs.Flow.{Flow}
use Rattle.ck_lexer.specs.Places.{Place}
use Rattle.ck_segments.specs.Expansion.{goes_in}
use Rattle.ck_segments.specs.declared.segments.Step.{Step}
use Rattle.ck_segments.specs.declared.segments.Step.TheVariants.{Edge, Call, Enter}
use Rattle.ck_texts.specs.Printing.{enters}
use Rattle.ck_texts.specs.Report.{after_step, step_line, step_lines}
use Rattle.ck_texts.specs.Views.{Names}

-- the point after steps from a point on
abbrev pub after_steps : Flow → ℕ → List Step → ℕ
after_steps flow point [] = point
after_steps flow point (step ∷ steps) = after_steps flow (after_step flow point step) steps

after_steps-push : (flow : Flow) (point : ℕ) (steps : List Step) (step : Step)
    → after_steps flow point (steps ++ step ∷ []) ≡ after_step flow (after_steps flow point steps) step
after_steps-push flow point [] step = refl
after_steps-push flow point (s ∷ steps) step = after_steps-push flow (after_step flow point s) steps step

step_lines-push : (flow : Flow) (names : Names) (at : Span → Place) (point : ℕ) (steps : List Step) (step : Step)
    → step_lines flow names at point (steps ++ step ∷ [])
    ≡ step_lines flow names at point steps ++ step_line flow names at (after_steps flow point steps) step
step_lines-push flow names at point [] step = append-nil (step_line flow names at point step)
step_lines-push flow names at point (s ∷ steps) step =
    ap (λ t. step_line flow names at point s ++ t) (step_lines-push flow names at (after_step flow point s) steps step)
    ∙ sym (append_assoc (step_line flow names at point s) (step_lines flow names at (after_step flow point s) steps)
    (step_line flow names at (after_steps flow (after_step flow point s) steps) step))

-- a loop over steps, one step further: the lines, and the point
pub step_lines-more : (flow : Flow) (names : Names) (at : Span → Place) (first point : ℕ) (steps : List Step) (i : ℕ)
    (d : Step) (start now next : List ℕ) → i < length steps → point ≡ after_steps flow first (take i steps)
    → now ≡ start ++ step_lines flow names at first (take i steps)
    → next ≡ now ++ step_line flow names at point (get_or steps i d)
    → next ≡ start ++ step_lines flow names at first (take (i + 1) steps)
step_lines-more flow names at first point steps i d start now next below there known more =
    let step : Step = get_or steps i d in
    more ∙ (ap (λ p. now ++ step_line flow names at p step) there
    ∙ (ap (λ t. t ++ step_line flow names at (after_steps flow first (take i steps)) step) known
    ∙ (append_assoc start (step_lines flow names at first (take i steps))
    (step_line flow names at (after_steps flow first (take i steps)) step)
    ∙ ap (λ t. start ++ t) (sym (step_lines-push flow names at first (take i steps) step)
    ∙ ap (step_lines flow names at first) (sym (take_more steps i d below))))))

pub after_steps-more : (flow : Flow) (first point next : ℕ) (steps : List Step) (i : ℕ) (d : Step)
    → i < length steps → point ≡ after_steps flow first (take i steps)
    → next ≡ after_step flow point (get_or steps i d) → next ≡ after_steps flow first (take (i + 1) steps)
after_steps-more flow first point next steps i d below there more =
    more ∙ (ap (λ p. after_step flow p (get_or steps i d)) there
    ∙ (sym (after_steps-push flow first (take i steps) (get_or steps i d))
    ∙ ap (after_steps flow first) (sym (take_more steps i d below))))

-- ---- The last step

abbrev pub enters_last : Option Step → Bool
enters_last None = false
enters_last (Some step) = enters step

goes_in-one : (step : Step) → goes_in (step ∷ []) ≡ enters step
goes_in-one (Edge k) = refl
goes_in-one (Call target segment) = refl
goes_in-one (Enter target) = refl

goes_in-more : (step next : Step) (steps : List Step) → goes_in (step ∷ next ∷ steps) ≡ goes_in (next ∷ steps)
goes_in-more (Edge k) next steps = refl
goes_in-more (Call target segment) next steps = refl
goes_in-more (Enter target) next steps = refl

pub goes_in-last : (steps : List Step) → goes_in steps ≡ enters_last (slice_get steps (length steps - 1))
goes_in-last [] = refl
goes_in-last (step ∷ []) = goes_in-one step
goes_in-last (step ∷ next ∷ steps) =
    let index : length (step ∷ next ∷ steps) - 1 ≡ suc (length (next ∷ steps) - 1) = omega arith in
    goes_in-more step next steps ∙ (goes_in-last (next ∷ steps)
    ∙ ap (λ k. enters_last (slice_get (step ∷ next ∷ steps) k)) (sym index))
