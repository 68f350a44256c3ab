-- The points of a synthetic function one by one, and that each is sound by itself.
use Rattle.std.proofs.Common.{◌≡◌, ℕ, zero, suc, ◌+◌, ◌*◌, ◌<◌, ◌≤◌, List, [], ◌∷◌, length, get_or, refl, ap}
use Rattle.std.proofs.Common.{◌∙◌, arith}
use Rattle.std.specs.List.{All, Contains}
use Rattle.std.proofs.Math.Nat.{mul-suc}
use Rattle.std.proofs.lemmas.List.Elements.{All-nil, All-cons}
use Rattle.ck_base.specs.declared.spans.FnId.{FnId}
use Rattle.ck_graph.specs.declared.points.Edge.{Edge}
use Rattle.ck_graph.specs.declared.points.Label.{Label}
use Rattle.ck_graph.specs.declared.points.Label.TheVariants as label
use Rattle.ck_graph.specs.declared.points.PointKind.TheVariants.{Exit}
use Rattle.ck_graph.specs.Faults.{FitsKind}
use Rattle.ck_graph.specs.Flow.{no_point}
use Rattle.ck_contexts.specs.declared.placing.Placing.{Placing}
use Rattle.ck_contexts.specs.declared.steps.Step.{Step}
use Rattle.ck_contexts.specs.declared.steps.Step.TheVariants.{Act, Call, Pick}
use Rattle.ck_contexts.specs.Extended.{edge, picks, point, point_of_step, points_from}
use Rattle.ck_contexts.proofs.InnerSteps.{IsInner}
use Rattle.ck_contexts.proofs.StepLemmas.{length-picks}

-- the point of the k-th step, and the one after the last
pub point-at_step : (at : Placing) (place k : ℕ) (ss : List Step) (d : Step) → k < length ss
    → get_or (points_from at place ss) k no_point ≡ point_of_step at (place + k) (get_or ss k d)
point-at_step at place k [] d below = absurd (omega (arith, below))
point-at_step at place zero (s ∷ ss) d below = ap (λ q. point_of_step at q s) (omega arith)
point-at_step at place (suc k) (s ∷ ss) d below =
    point-at_step at (place + 1) k ss d (omega arith) ∙ ap (λ q. point_of_step at q (get_or ss k d)) (omega arith)

pub point-at_exit : (at : Placing) (place k : ℕ) (ss : List Step) → k ≡ length ss
    → get_or (points_from at place ss) k no_point ≡ point at (place + k) Exit [] []
point-at_exit at place zero [] is = ap (λ q. point at q Exit [] []) (omega arith)
point-at_exit at place (suc k) [] is = absurd (omega (arith, is))
point-at_exit at place zero (s ∷ ss) is = absurd (omega (arith, is))
point-at_exit at place (suc k) (s ∷ ss) is =
    point-at_exit at (place + 1) k ss (omega arith) ∙ ap (λ q. point at q Exit [] []) (omega arith)

-- all points are the function's
pub function-of_step : (at : Placing) (place : ℕ) (s : Step) → (point_of_step at place s).function ≡ at.function
function-of_step at place (Act op name next) = refl
function-of_step at place (Call number f next) = refl
function-of_step at place (Pick after part size functions) = refl

pub function-at : (at : Placing) (place k : ℕ) (ss : List Step) → k ≤ length ss
    → (get_or (points_from at place ss) k no_point).function ≡ at.function
function-at at place zero [] within = refl
function-at at place (suc k) [] within = absurd (omega (arith, within))
function-at at place zero (s ∷ ss) within = function-of_step at place s
function-at at place (suc k) (s ∷ ss) within = function-at at (place + 1) k ss (omega arith)

-- an edge leads to one of the function's points
pub record IsWithin (at : Placing) (e : Edge) : Type 0 where
  pub after : at.first ≤ e.to.0
  pub before : e.to.0 ≤ at.exit

edge-within : (at : Placing) (place : ℕ) (l : Label) → at.first + place ≤ at.exit → IsWithin at (edge at place l)
edge-within at place l fits = record { after = omega arith; before = fits }

picks-within : (at : Placing) (k place size n : ℕ) → at.first + (place + size * n) ≤ at.exit
    → All (IsWithin at) (picks at k place size n)
picks-within at k place size zero fits = All-nil (IsWithin at)
picks-within at k place size (suc n) fits =
    let more = mul-suc size n in
    All-cons (IsWithin at) (edge at place (label.Pick k)) (picks at (k + 1) (place + size) size n)
    (edge-within at place (label.Pick k) (omega arith))
    (picks-within at (k + 1) (place + size) size n (omega arith))

module _ (at : Placing) (fs : List FnId) where
  pub edges-within : (place : ℕ) (s : Step) → IsInner at fs s → All (IsWithin at) (point_of_step at place s).edges
  edges-within place (Act op name next) i =
      All-cons (IsWithin at) _ [] (edge-within at next label.Plain i.leads) (All-nil (IsWithin at))
  edges-within place (Call number f next) i =
      All-cons (IsWithin at) _ [] (edge-within at next label.Plain i.leads) (All-nil (IsWithin at))
  edges-within place (Pick after part size functions) i =
      All-cons (IsWithin at) _ (picks at 1 part size functions) (edge-within at after (label.Pick 0) i.leads.0)
      (picks-within at 1 part size functions i.leads.1)

  pub targets-of_step : (P : FnId → Type 0) → ((f : FnId) → Contains fs f → P f) → (place : ℕ) (s : Step)
      → IsInner at fs s → All P (point_of_step at place s).targets
  targets-of_step P holds place (Act op name next) i = All-nil P
  targets-of_step P holds place (Call number f next) i = All-cons P f [] (holds f i.calls) (All-nil P)
  targets-of_step P holds place (Pick after part size functions) i = All-nil P

  -- no step has more edges than its function has points
  pub edges-few : (place : ℕ) (s : Step) → IsInner at fs s
      → length (point_of_step at place s).edges ≤ at.exit + 1
  edges-few place (Act op name next) i = omega arith
  edges-few place (Call number f next) i = omega arith
  edges-few place (Pick after part size functions) i = omega (arith, length-picks at 1 part size functions, i.picks)

pub step-fits : (at : Placing) (place : ℕ) (s : Step)
    → FitsKind (point_of_step at place s).kind (length (point_of_step at place s).edges)
step-fits at place (Act op name next) = refl
step-fits at place (Call number f next) = refl
step-fits at place (Pick after part size functions) = tt

pub step-ends_not : (at : Placing) (place : ℕ) (s : Step) → (point_of_step at place s).kind ≡ Exit → ⊥
step-ends_not at place (Act op name next) is = cc
step-ends_not at place (Call number f next) is = cc
step-ends_not at place (Pick after part size functions) is = cc
