-- Segments in form whose steps fit are a walk from the root.
use Rattle.std.proofs.Common.{◌≡◌, ◌⊎◌, ℕ, zero, suc, cond, true, false, List, [], ◌∷◌, ◌++◌, Some, None, slice_get}
use Rattle.std.proofs.Common.{take, refl, sym, ap, ◌∙◌, subst, append_assoc, inl, inr, arith}
use Rattle.std.specs.Prelude.{option_and_then}
use Rattle.std.specs.List.{All}
use Rattle.std.proofs.lemmas.List.Elements.{All-head, All-tail}
use Rattle.ck_base.specs.declared.spans.FnId.{FnId}
use Rattle.ck_base.specs.declared.states.State.{State}
use Rattle.ck_graph.specs.Flow.{Flow}
use Rattle.ck_graph.specs.Faults.{IsSound}
use Rattle.ck_graph.specs.Walk.{Frame, Configuration, Move, EnterTarget, entered, moved_at, walked, walk}
use Rattle.ck_graph.specs.Steps.{first_of, exit_of, MayEnter}
use Rattle.ck_graph.specs.MatchedPath.{IsMatchedPath, running}
use Rattle.ck_graph.proofs.MatchedPaths.{walked-append}
use Rattle.ck_segments.specs.declared.segments.Step.{Step}
use Rattle.ck_segments.specs.declared.segments.Step.TheVariants.{Edge, Call, Enter}
use Rattle.ck_segments.specs.Plain.{PlainSegment}
use Rattle.ck_segments.specs.Expansion.{step_moves, steps_moves, goes_in, expand_from, expand}
use Rattle.ck_segments.specs.Form.{StaysWithin, IsPathTo, IsLast, GoesInto, AreUnfinished}
use Rattle.ck_segments.specs.Runs.{Through, StepsRun, RunOn, StartsIn}
use Rattle.ck_segments.specs.Laws.{PathsAreWalks, SegmentsLead}
use Rattle.ck_segments.proofs.Lists.{append-none}
use Rattle.ck_segments.proofs.Expanding.{AreReal, real-more, path-steps}
use Rattle.ck_segments.proofs.Finished.{lower_of, IsSomething, goes_in-stays, expand-finished, real-finished}

goes_in-ends : (any : List PlainSegment) (before : List Step) (target : FnId) → All (StaysWithin any) before →
    goes_in (before ++ Enter target ∷ []) ≡ true
goes_in-ends any [] target stays = refl
goes_in-ends any (Enter f ∷ steps) target stays = absurd (All-head (StaysWithin any) (Enter f) steps stays)
goes_in-ends any (Edge k ∷ steps) target stays =
    goes_in-ends any steps target (All-tail (StaysWithin any) (Edge k) steps stays)
goes_in-ends any (Call f segment ∷ steps) target stays =
    goes_in-ends any steps target (All-tail (StaysWithin any) (Call f segment) steps stays)

moves-ends : (lower : List (List Move)) (before : List Step) (target : FnId) (rest : List Move) →
    steps_moves lower (before ++ Enter target ∷ []) ++ rest ≡ steps_moves lower before ++ EnterTarget target.0 ∷ rest
moves-ends lower [] target rest = refl
moves-ends lower (step ∷ steps) target rest =
    append_assoc (step_moves lower step) (steps_moves lower (steps ++ Enter target ∷ [])) rest ∙
    (ap (λ moves. step_moves lower step ++ moves) (moves-ends lower steps target rest) ∙
    sym (append_assoc (step_moves lower step) (steps_moves lower steps) (EnterTarget target.0 ∷ rest)))

abbrev first_point : Flow → List PlainSegment → ℕ
first_point flow [] = 0
first_point flow (segment ∷ rest) = first_of flow segment.function.0

module _ (flow : Flow) (sound : IsSound flow) where
  -- steps that end in a call that is gone into
  record Goes (through : List Through) (p : ℕ) (i : State) (before : List Step) (target : FnId) (j : State) : Type
      0 where
    point : ℕ
    steps : StepsRun flow through p i before point j
    enters : MayEnter flow point target.0

  goes : (through : List Through) (before : List Step) (target : FnId) (p : ℕ) (i : State) (q : ℕ) (j : State) →
      StepsRun flow through p i (before ++ Enter target ∷ []) q j → Goes through p i before target j
  goes through [] target p i q j run = record {
    point = p;
    steps = (refl, run.2.1 ∙ run.3.1);
    enters = run.2.0.0;
  }
  goes through (step ∷ before) target p i q j run =
      let on = goes through before target run.0 run.1 q j run.3 in
      record { point = on.point; steps = (run.0, run.1, run.2, on.steps); enters = on.enters }

  walked-into : (p : ℕ) (e i : State) (below : List Frame) (target : ℕ) (rest : List Move) → MayEnter flow p target →
      walked flow (running p e below i) (EnterTarget target ∷ rest) ≡
      walked flow (running (first_of flow target) i (record { point = p; entered = e } ∷ below) i) rest
  walked-into p e i below target rest may =
      let c : Configuration = running p e below i in
      ap (option_and_then (λ next. walked flow next rest))
      (ap (λ kind. moved_at flow kind c (EnterTarget target)) may.is_call ∙
      ap (λ b. cond b (Some (entered flow c target)) None) may.named)

  -- moves from a configuration to a point and state
  record EndsAt (c : Configuration) (moves : List Move) (q : ℕ) (j : State) : Type 0 where
    end : Configuration
    walked : walked flow c moves ≡ Some end
    point_is : end.top.point ≡ q
    state_is : end.state ≡ j

  ends-last : (finished : List PlainSegment) (through : List Through) (lower : List (List Move))
      (segment : PlainSegment) (i : State) (q : ℕ) (j : State) → AreReal flow through lower →
      IsLast flow finished segment → StepsRun flow through (first_of flow segment.function.0) i segment.steps q j →
      (e : State) (below : List Frame) →
      EndsAt (running (first_of flow segment.function.0) e below i) (expand_from lower (segment ∷ [])) q j
  ends-last finished through lower segment i q j real last run e below =
      let p : ℕ = first_of flow segment.function.0 in
      let path : IsMatchedPath flow p i (steps_moves lower segment.steps) q j =
      path-steps flow sound through lower finished segment.steps p i q j real last.stays run in
      record {
        end = running q e below j;
        walked = ap (walked flow (running p e below i)) (append-none (steps_moves lower segment.steps)) ∙ path e below;
        point_is = refl;
        state_is = refl;
      }

  -- a segment, and then what the next ones do
  ends-before : (finished : List PlainSegment) (through : List Through) (lower : List (List Move))
      (segment next : PlainSegment) (rest : List Move) (i k : State) (q : ℕ) (j : State) → AreReal flow through lower →
      (into : GoesInto flow finished segment next) →
      StepsRun flow through (first_of flow segment.function.0) i segment.steps (first_of flow next.function.0) k →
      ((e : State) (below : List Frame) → EndsAt (running (first_of flow next.function.0) e below k) rest q j) →
      (e : State) (below : List Frame) →
      EndsAt (running (first_of flow segment.function.0) e below i) (steps_moves lower segment.steps ++ rest) q j
  ends-before finished through lower segment next rest i k q j real into run on e below =
      let p : ℕ = first_of flow segment.function.0 in
      let r : ℕ = first_of flow next.function.0 in
      let g : Goes through p i into.before next.function k =
      goes through into.before next.function p i r k
      (subst (λ steps. StepsRun flow through p i steps r k) into.ends run) in
      let path : IsMatchedPath flow p i (steps_moves lower into.before) g.point k =
      path-steps flow sound through lower finished into.before p i g.point k real into.stays g.steps in
      let ends = on k (record { point = g.point; entered = e } ∷ below) in
      record {
        end = ends.end;
        walked =
            ap (λ steps. walked flow (running p e below i) (steps_moves lower steps ++ rest)) into.ends ∙
            (ap (walked flow (running p e below i)) (moves-ends lower into.before next.function rest) ∙
            (walked-append flow (running p e below i) (running g.point e below k) (steps_moves lower into.before)
            (EnterTarget next.function.0 ∷ rest) (path e below) ∙
            (walked-into g.point e k below next.function.0 rest g.enters ∙ ends.walked)));
        point_is = ends.point_is;
        state_is = ends.state_is;
      }

  ends-unfinished : (finished : List PlainSegment) (through : List Through) (unfinished : List PlainSegment)
      (lower : List (List Move)) (i : State) (q : ℕ) (j : State) → AreReal flow through lower →
      AreUnfinished flow finished unfinished → RunOn flow through i unfinished q j → (e : State) (below : List Frame) →
      EndsAt (running (first_point flow unfinished) e below i) (expand_from lower unfinished) q j
  ends-unfinished finished through [] lower i q j real form run e below = absurd run
  ends-unfinished finished through (segment ∷ []) lower i q j real form run e below =
      ends-last finished through lower segment i q j real form run e below
  ends-unfinished finished through (segment ∷ (next ∷ rest)) lower i q j real form run e below =
      let moves : List Move = steps_moves lower segment.steps in
      let later : List Move = expand_from (lower ++ moves ∷ []) (next ∷ rest) in
      let into : GoesInto flow finished segment next = form.0 in
      let goes : goes_in segment.steps ≡ true =
      ap goes_in into.ends ∙ goes_in-ends finished into.before next.function into.stays in
      let ends =
      ends-before finished through lower segment next later i run.0 q j real into run.1
      (ends-unfinished finished through (next ∷ rest) (lower ++ moves ∷ []) run.0 q j
      (real-more flow through lower (moves ∷ []) real) form.1 run.2) e below in
      record {
        end = ends.end;
        walked =
            ap (λ b. walked flow (running (first_of flow segment.function.0) e below i) (cond b moves [] ++ later))
            goes ∙
            ends.walked;
        point_is = ends.point_is;
        state_is = ends.state_is;
      }

something : (flow : Flow) (finished unfinished : List PlainSegment) → AreUnfinished flow finished unfinished →
    IsSomething unfinished
something flow finished [] form = form
something flow finished (segment ∷ rest) form = tt

-- a walk from the root begins where the first unfinished segment does
starts-there : (flow : Flow) (function : FnId) (unfinished : List PlainSegment) → StartsIn function unfinished →
    first_point flow unfinished ≡ first_of flow function.0
starts-there flow function [] starts = absurd starts
starts-there flow function (segment ∷ rest) starts = ap (λ (f : FnId). first_of flow f.0) starts

pub walks : PathsAreWalks
walks flow sound root list form point state fit =
    let finished : List PlainSegment = form.finished in
    let lower : List (List Move) = lower_of [] finished in
    let none : (n : ℕ) (segment : PlainSegment) → slice_get finished n ≡ Some segment → goes_in segment.steps ≡ false =
    λ n segment is. goes_in-stays (take n finished) segment.steps (form.each_finished n segment is).stays in
    let real : AreReal flow fit.through lower =
    real-finished flow sound [] fit.through [] finished refl fit.same
    (record { few = omega arith; paths = λ n does is. absurd (cc) })
    (λ n segment is. (take n finished, (form.each_finished n segment is).stays)) fit.each_through in
    let ends =
    ends-unfinished flow sound finished fit.through form.unfinished lower root.start point state real form.going_on
    fit.run root.start [] in
    record {
      configuration = ends.end;
      walked =
          ap (walk flow root) (ap expand form.parts ∙ expand-finished [] finished form.unfinished
          (something flow finished form.unfinished form.going_on) none) ∙
          (ap (λ p. walked flow (running p root.start [] root.start) (expand_from lower form.unfinished))
          (sym (starts-there flow root.function form.unfinished fit.starts)) ∙ ends.walked);
      point_is = ends.point_is;
      state_is = ends.state_is;
    }

-- an element of one list after another is one of either
split : (xs ys : List PlainSegment) (n : ℕ) (y : PlainSegment) → slice_get (xs ++ ys) n ≡ Some y →
    (slice_get xs n ≡ Some y) ⊎ ((m : ℕ) × (slice_get ys m ≡ Some y))
split [] ys n y is = inr (n, is)
split (x ∷ xs) ys zero y is = inl is
split (x ∷ xs) ys (suc n) y is = split xs ys n y is

lead-unfinished : (flow : Flow) (finished unfinished : List PlainSegment) → AreUnfinished flow finished unfinished →
    (m : ℕ) (segment : PlainSegment) → slice_get unfinished m ≡ Some segment → (to : ℕ) × IsPathTo flow segment to
lead-unfinished flow finished [] form m segment is = absurd form
lead-unfinished flow finished (s ∷ []) form zero segment is =
    let same : s ≡ segment = cc in
    subst (λ (x : PlainSegment). (to : ℕ) × IsPathTo flow x to) same (form.to, form.path)
lead-unfinished flow finished (s ∷ []) form (suc m) segment is = absurd (cc)
lead-unfinished flow finished (s ∷ (next ∷ rest)) form zero segment is =
    let same : s ≡ segment = cc in
    subst (λ (x : PlainSegment). (to : ℕ) × IsPathTo flow x to) same (first_of flow next.function.0, form.0.path)
lead-unfinished flow finished (s ∷ (next ∷ rest)) form (suc m) segment is =
    lead-unfinished flow finished (next ∷ rest) form.1 m segment is

pub lead : SegmentsLead
lead flow list form n segment is =
    let at : slice_get (form.finished ++ form.unfinished) n ≡ Some segment =
    ap (λ xs. slice_get xs n) (sym form.parts) ∙ is in
    elim (split form.finished form.unfinished n segment at) [
      | inl finished ↦ (exit_of flow segment.function.0, (form.each_finished n segment finished).path)
      | inr open_one ↦ lead-unfinished flow form.finished form.unfinished form.going_on open_one.0 segment open_one.1
    ]
