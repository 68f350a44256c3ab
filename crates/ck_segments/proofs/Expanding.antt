-- Steps that fit the states make matched paths, above any frames.
use Rattle.std.proofs.Common.{◌≡◌, ◌≤◌, ℕ, List, [], ◌∷◌, ◌++◌, Some, length, slice_get, refl, sym, subst, arith}
use Rattle.std.proofs.Common.{length-append}
use Rattle.std.specs.Prelude.{slice_index_or}
use Rattle.std.specs.List.{All}
use Rattle.std.proofs.lemmas.List.Elements.{All-head, All-tail}
use Rattle.std.proofs.lemmas.Option.{slice_get_within}
use Rattle.ck_base.specs.declared.states.State.{State}
use Rattle.ck_graph.specs.declared.points.PointKind.{PointKind}
use Rattle.ck_graph.specs.declared.points.PointKind.TheVariants.{Plain, Act, Call as CallPoint, Exit}
use Rattle.ck_graph.specs.Flow.{Flow}
use Rattle.ck_graph.specs.Faults.{IsSound}
use Rattle.ck_graph.specs.Walk.{Move, TakeEdge}
use Rattle.ck_graph.specs.Steps.{kind_at, first_of, exit_of, HasEdge}
use Rattle.ck_graph.specs.MatchedPath.{IsMatchedPath}
use Rattle.ck_graph.proofs.MatchedPaths.{paths}
use Rattle.ck_segments.specs.declared.segments.Step.{Step}
use Rattle.ck_segments.specs.declared.segments.Step.TheVariants.{Edge, Call, Enter}
use Rattle.ck_segments.specs.Plain.{PlainSegment}
use Rattle.ck_segments.specs.Expansion.{step_moves, steps_moves}
use Rattle.ck_segments.specs.Follows.{TakesEdge, EdgeLeads}
use Rattle.ck_segments.specs.Form.{StaysWithin}
use Rattle.ck_segments.specs.Runs.{Through, StateLeads, StepRuns, StepsRun}
use Rattle.ck_segments.proofs.Lists.{index-append}

-- the moves of each segment lead through its function, as it is said of it
pub record AreReal (flow : Flow) (through : List Through) (lower : List (List Move)) : Type 0 where
  pub few : length through ≤ length lower
  pub paths :
      (n : ℕ) (does : Through) → slice_get through n ≡ Some does →
      IsMatchedPath flow (first_of flow does.function.0) does.entered (slice_index_or lower n [])
      (exit_of flow does.function.0) does.left

module _ (flow : Flow) (sound : IsSound flow) where
  path-edge : (p : ℕ) (i : State) (k q : ℕ) (j : State) (kind : PointKind) → kind_at flow p ≡ kind →
      TakesEdge kind k → StateLeads kind i j → EdgeLeads flow p k q → IsMatchedPath flow p i (TakeEdge k ∷ []) q j
  path-edge p i k q j Plain is takes state e =
      let path : IsMatchedPath flow p i (TakeEdge k ∷ []) e.edge.to.0 i =
      (paths flow sound).along_edge p p i i [] ((paths flow sound).none p i) is k e.edge e.has in
      subst (λ s. IsMatchedPath flow p i (TakeEdge k ∷ []) q s) state
      (subst (λ r. IsMatchedPath flow p i (TakeEdge k ∷ []) r i) e.leads path)
  path-edge p i k q j (Act op name) is takes state e =
      let has : HasEdge flow p 0 e.edge = subst (λ n. HasEdge flow p n e.edge) takes e.has in
      let path : IsMatchedPath flow p i (TakeEdge 0 ∷ []) e.edge.to.0 j =
      (paths flow sound).by_act p p i i j [] ((paths flow sound).none p i)
      (record { op = op; name = name; is_act = is; acts = state }) e.edge has in
      subst (λ n. IsMatchedPath flow p i (TakeEdge n ∷ []) q j) (sym takes)
      (subst (λ r. IsMatchedPath flow p i (TakeEdge 0 ∷ []) r j) e.leads path)
  path-edge p i k q j (CallPoint call) is takes state e = absurd takes
  path-edge p i k q j Exit is takes state e = absurd takes

  path-step : (through : List Through) (lower : List (List Move)) (any : List PlainSegment) (p : ℕ) (i : State)
      (step : Step) (q : ℕ) (j : State) → AreReal flow through lower → StaysWithin any step →
      StepRuns flow through p i step q j → IsMatchedPath flow p i (step_moves lower step) q j
  path-step through lower any p i (Edge k) q j real stays run =
      path-edge p i k q j (kind_at flow p) refl run.0.0 run.1 run.0.1
  path-step through lower any p i (Call target segment) q j real stays run =
      let does : Through = record { function = target; entered = i; left = j } in
      subst (λ r. IsMatchedPath flow p i (step_moves lower (Call target segment)) r j) run.0.1.leads
      ((paths flow sound).over_call p p i i j [] ((paths flow sound).none p i) target.0 run.0.0
      (slice_index_or lower segment []) (real.paths segment does run.1) run.0.1.edge run.0.1.has)
  path-step through lower any p i (Enter target) q j real stays run = absurd stays

  pub path-steps : (through : List Through) (lower : List (List Move)) (any : List PlainSegment) (steps : List Step)
      (p : ℕ) (i : State) (q : ℕ) (j : State) → AreReal flow through lower → All (StaysWithin any) steps →
      StepsRun flow through p i steps q j → IsMatchedPath flow p i (steps_moves lower steps) q j
  path-steps through lower any [] p i q j real stays run =
      subst (λ s. IsMatchedPath flow p i [] q s) run.1
      (subst (λ r. IsMatchedPath flow p i [] r i) run.0 ((paths flow sound).none p i))
  path-steps through lower any (step ∷ steps) p i q j real stays run =
      (paths flow sound).by_path p run.0 q i run.1 j (step_moves lower step) (steps_moves lower steps)
      (path-step through lower any p i step run.0 run.1 real (All-head (StaysWithin any) step steps stays) run.2)
      (path-steps through lower any steps run.0 run.1 q j real (All-tail (StaysWithin any) step steps stays) run.3)

-- more segments change nothing of those that are there
pub real-more : (flow : Flow) (through : List Through) (lower more : List (List Move)) → AreReal flow through lower →
    AreReal flow through (lower ++ more)
real-more flow through lower more real = record {
  few = omega (arith, real.few, length-append lower more);
  paths = λ n does is.
      subst
      (λ moves. IsMatchedPath flow (first_of flow does.function.0) does.entered moves (exit_of flow does.function.0)
      does.left)
      (sym (index-append lower more [] n (omega (arith, real.few, slice_get_within through n does is))))
      (real.paths n does is);
}
